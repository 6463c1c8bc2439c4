-- The target's secret hands no key in.
use Rattle.std.proofs.Common.{◌≡◌, ap}
use Rattle.ferry_repo.specs.declared.fault.RepoFault.TheVariants as Repos
use Rattle.ferry_repo.specs.declared.secret.Secret.{Secret}
use Rattle.ferry_store.specs.Key.{FitsGiven}
use Rattle.ferry_run_drill.specs.Drill.{target_secret}

pub no_key : (secret : Secret) → secret ≡ target_secret → FitsGiven secret
no_key secret is (Repos.KeyFile fault) refused = refused.0 (ap (λ (s : Secret). s.key_file) is)
no_key secret is (Repos.Key fault) refused = refused.0 (ap (λ (s : Secret). s.key_file) is)
no_key secret is Repos.NoCommit refused = refused
no_key secret is (Repos.Damaged segment at) refused = refused
no_key secret is (Repos.Config cause) refused = refused
no_key secret is (Repos.Missing id) refused = refused
no_key secret is (Repos.Blob id cause) refused = refused
no_key secret is (Repos.Manifest cause) refused = refused
no_key secret is (Repos.Archive id cause) refused = refused
no_key secret is (Repos.Item id cause) refused = refused
no_key secret is (Repos.Size id) refused = refused
no_key secret is (Repos.Other file config) refused = refused
no_key secret is Repos.NoKey refused = refused
no_key secret is Repos.Device refused = refused
no_key secret is Repos.Memory refused = refused
