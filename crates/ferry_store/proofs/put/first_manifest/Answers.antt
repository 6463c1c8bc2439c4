use Rattle.std.proofs.Common.{◌≡◌, ◌++◌, ℕ, List, replicate, length, IfErr, IfOk, OnOk, option_map, refl, sym, subst}
use Rattle.ferry_manifest.specs.Manifest.Writing.{IsPackable, manifest_text}
use Rattle.ferry_store.proofs.put.first_manifest.Goals as goal
use Rattle.ferry_store.proofs.ManifestLemmas.{packable}
use Rattle.ferry_store.proofs.StepLemmas.{err_is}
use Rattle.ferry_store.specs.New.{IsPacked, first_manifest}
use Rattle.ferry_store.specs.State.{RefusesManifest}

pub packed-requires : goal.packed-requires
packed-requires g c = record { packable = subst IsPackable (sym c.in_ok-manifest.ensures.manifest) (packable c.args.timestamp.now) }

pub returns-in_err-manifest-clause-made : goal.returns-in_err-manifest-clause-made
returns-in_err-manifest-clause-made g c =
    let salt = replicate 64 0 in
    let refusal = c.in_err-manifest.field-0.0 in
    let keys = c.args.keys.now in
    let manifest = first_manifest c.args.timestamp.now in
    let size = length (manifest_text keys salt manifest) in (
      salt,
      (
        refl,
        err_is c.from_residual.result refusal
            (λ r. OnOk r
            (g.E.Entropy.drawn c.args.entropy.now ≡ option_map (λ (d : List ℕ). d ++ salt) (g.E.Entropy.drawn c.args.entropy.now)))
            c.from_residual.ensures.1 tt,
        err_is c.from_residual.result refusal (λ r. IfOk r (λ buffer. IsPacked keys salt manifest buffer.items)) c.from_residual.ensures.1 tt,
        err_is c.from_residual.result refusal (λ r. IfErr r (RefusesManifest size)) c.from_residual.ensures.1
            (subst (RefusesManifest size) (sym c.in_err-manifest.ensures.refused) tt),
      ),
    )
