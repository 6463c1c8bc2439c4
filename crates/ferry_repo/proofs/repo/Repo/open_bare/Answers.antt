use Rattle.std.proofs.Common.{IfSome, sym, ◌∙◌, subst}
use Rattle.ferry_config.specs.declared.config.Config.{Config}
use Rattle.ferry_disk.specs.Device.{told_files}
use Rattle.ferry_disk.specs.Files.{contents_at}
use Rattle.ferry_disk.specs.declared.name.Name.TheVariants as Name
use Rattle.ferry_disk.proofs.DeviceLemmas.{told_same, told_then, told_with}
use Rattle.ferry_keyblob.specs.Opening.{key_view}
use Rattle.ferry_log.specs.State.{IsStateOf, FitsFiles}
use Rattle.ferry_log.proofs.FitsLemmas.{opened_fits}
use Rattle.ferry_mac.specs.declared.keys.Keys.{Keys}
use Rattle.ferry_manifest.specs.Manifest.Text.{manifest_view}
use Rattle.ferry_repo.specs.Opening.{LacksRoot, OpensBare, RefusesBare, RefusesKey, RootOrNone, UnlocksFiles, UnlocksTo}
use Rattle.ferry_repo.specs.declared.fault.RepoFault.{RepoFault}
use Rattle.ferry_repo.proofs.FaultLemmas.{gives_err}
use Rattle.ferry_repo.proofs.OpeningLemmas.{key_bare, root_opens, root_refused, unlocks_files}
use Rattle.ferry_repo.proofs.repo.Repo.open_bare.Goals as goal

pub returns-in_err-unlocked-clause-refused : goal.returns-in_err-unlocked-clause-refused
returns-in_err-unlocked-clause-refused g c =
    let told = g.S.Shelf.told in
    let secret = c.args.secret.now in
    let log = c.in_ok-log.log in
    let fault = c.in_err-unlocked.field-0.0 in
    gives_err c.from_residual-in_err-unlocked.result _ _ c.from_residual-in_err-unlocked.ensures.1 (λ y is.
    subst (λ (f : RepoFault). IfSome (told c.args.shelf.now) (λ t. RefusesBare (told_files t) secret f)) (sym is)
    (told_with (told c.args.shelf.now) (told c.open_log.new.shelf) (λ f. IsStateOf f log) (λ f. RefusesKey (contents_at f Name.Config) secret fault)
    (λ f. RefusesBare f secret fault)
    c.in_ok-log.ensures.same (λ f i r. key_bare f secret log fault i r) c.in_ok-log.ensures.log c.in_err-unlocked.ensures.refused))

pub root_or_none-requires : goal.root_or_none-requires
root_or_none-requires g c =
    let told = g.S.Shelf.told in
    let log = c.in_ok-log.log in
    record {
      fits = told_same (told c.args.shelf.now) (told c.unlock.new.shelf) (λ f. FitsFiles f log) (c.in_ok-unlocked.ensures.same ∙ c.in_ok-log.ensures.same)
          (told_then (told c.args.shelf.now) (λ f. IsStateOf f log) (λ f. FitsFiles f log) (λ f is. opened_fits f log is) c.in_ok-log.ensures.log);
    }

pub returns-in_err-manifest-clause-refused : goal.returns-in_err-manifest-clause-refused
returns-in_err-manifest-clause-refused g c =
    let told = g.S.Shelf.told in
    let secret = c.args.secret.now in
    let log = c.in_ok-log.log in
    let u = c.in_ok-unlocked.unlocked in
    let keys = u.key.keys in
    let fault = c.in_err-manifest.field-0.0 in
    let unlocks = told_with (told c.args.shelf.now) (told c.open_log.new.shelf) (λ f. IsStateOf f log)
    (λ f. UnlocksTo (contents_at f Name.Config) secret u.config u.iterations (key_view u.key))
    (λ f. UnlocksFiles f secret log u.config keys) c.in_ok-log.ensures.same
    (λ f i r. unlocks_files f secret log u.config u.iterations (key_view u.key) i r) c.in_ok-log.ensures.log c.in_ok-unlocked.ensures.unlocked in
    gives_err c.from_residual-in_err-manifest.result _ _ c.from_residual-in_err-manifest.ensures.1 (λ y is.
    subst (λ (f : RepoFault). IfSome (told c.args.shelf.now) (λ t. RefusesBare (told_files t) secret f)) (sym is)
    (told_with (told c.args.shelf.now) (told c.unlock.new.shelf) (λ f. UnlocksFiles f secret log u.config keys)
    (λ f. LacksRoot f log keys fault) (λ f. RefusesBare f secret fault)
    (c.in_ok-unlocked.ensures.same ∙ c.in_ok-log.ensures.same)
    (λ f i r. (root_refused f secret log u.config keys fault i r, c.in_err-manifest.ensures.other)) unlocks
    c.in_err-manifest.ensures.refused))

pub returns-clause-repository : goal.returns-clause-repository
returns-clause-repository g c =
    let told = g.S.Shelf.told in
    let secret = c.args.secret.now in
    let log = c.in_ok-log.log in
    let u = c.in_ok-unlocked.unlocked in
    let keys = u.key.keys in
    let text = manifest_view c.in_ok-manifest.manifest in
    let fault = c.in_ok-manifest.fault in
    let unlocks = told_with (told c.args.shelf.now) (told c.open_log.new.shelf) (λ f. IsStateOf f log)
    (λ f. UnlocksTo (contents_at f Name.Config) secret u.config u.iterations (key_view u.key))
    (λ f. UnlocksFiles f secret log u.config keys) c.in_ok-log.ensures.same
    (λ f i r. unlocks_files f secret log u.config u.iterations (key_view u.key) i r) c.in_ok-log.ensures.log c.in_ok-unlocked.ensures.unlocked in
    let opens = told_with (told c.args.shelf.now) (told c.unlock.new.shelf) (λ f. UnlocksFiles f secret log u.config keys)
    (λ f. RootOrNone f log keys text fault)
    (λ f. OpensBare f secret (record { log = log; config = u.config; keys = keys; manifest = text }) fault)
    (c.in_ok-unlocked.ensures.same ∙ c.in_ok-log.ensures.same)
    (λ f i root. root_opens f secret log u.config keys text fault i root) unlocks
    c.in_ok-manifest.ensures.root in
    let made = c.settings-config.ensures in
    subst (λ (k : Config). IfSome (told c.args.shelf.now)
    (λ t. OpensBare (told_files t) secret (record { log = log; config = k; keys = c.settings-config.result.1; manifest = text }) fault))
    (sym made.config)
    (subst (λ (k : Keys). IfSome (told c.args.shelf.now)
    (λ t. OpensBare (told_files t) secret (record { log = log; config = u.config; keys = k; manifest = text }) fault))
    (sym made.keys) opens)
