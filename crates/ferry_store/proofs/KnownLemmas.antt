-- What a store knows of contents: nothing where it is new, and one content more after each that is added.
use Rattle.std.proofs.Common.{◌≡◌, ◌≢◌, inl, inr, ◌<◌, ℕ, false, List, [], Some, IsSome, ◌∙◌, ap, subst, arith}
use Rattle.std.specs.BTreeSet.{contains}
use Rattle.std.specs.FinMap.{get, empty, get-empty}
use Rattle.std.proofs.Common.{BTreeSet}
use Rattle.ferry_base.specs.Limits.{zero_id}
use Rattle.ferry_disk.specs.Act.{History, files_now}
use Rattle.ferry_log.proofs.LawLemmas.{one_transaction}
use Rattle.ferry_log.specs.Live.{key_cmp}
use Rattle.ferry_log.specs.State.{LogState, IsStateOf}
use Rattle.ferry_repo.specs.Opening.{repo_view}
use Rattle.ferry_segment.specs.Entry.{LogEntry}
use Rattle.ferry_stops.proofs.EntryLemmas.{shown_log}
use Rattle.ferry_store.specs.Store.{IsKnown}
use Rattle.ferry_store.specs.declared.store.Store.{Store}
use Rattle.ferry_write.proofs.LawLemmas.{fits_now}
use Rattle.ferry_write.specs.Room.{behind}
use Rattle.ferry_write.specs.Session.{SessionFits}
use Rattle.ferry_write.specs.declared.session.Session.{Session}

-- ---- a new store

none_in : (s : BTreeSet (List ℕ)) (id : List ℕ) → s.keys ≡ [] → contains key_cmp s id ≡ false
none_in s id e = ap (λ (ks : List (List ℕ)). contains key_cmp (record { keys = ks }) id) e

pub nothing_known : (store : Store) (id : List ℕ) → (repo_view store.repo).log.learnt ≡ empty → store.opened.keys ≡ [] → id ≢ zero_id → IsKnown store id → ⊥
nothing_known store id learnt opened apart (inl zero) = apart zero
nothing_known store id learnt opened apart (inr (inl put)) =
    let none = subst IsSome (ap (λ m. get m id) learnt ∙ get-empty key_cmp id) put in let no : ⊥ = cc in no
nothing_known store id learnt opened apart (inr (inr has)) = let none = none_in store.opened id opened in let no : ⊥ = cc in no

-- the log of a repository that was opened ends below the segments of a session over the same files
pub below_commit : (session : Session) (committed pending : List LogEntry) (h : History) (log : LogState)
    → SessionFits session (Some committed) pending h → IsStateOf (files_now h) log → log.transaction < behind session.after
below_commit session committed pending h log fits is =
    let shown = shown_log (files_now h) (behind session.after) committed (fits_now session (Some committed) pending h fits) in
    let same = one_transaction (files_now h) log.transaction shown.0 is.is.is shown.3.is in
    omega (arith, shown.2, same)
