use Rattle.std.proofs.Common.{◌≡◌, inl, List, ℕ, Result, Ok, Err, IfErr, IfSome, length, refl, sym, ◌∙◌, ap, subst}
use Rattle.std.proofs.lemmas.Option.{IfSome_then}
use Rattle.std.specs.List.{AllByRecursion}
use Rattle.ferry_check.specs.Verify.{IsChunk}
use Rattle.ferry_disk.proofs.DeviceLemmas.{told_any}
use Rattle.ferry_disk.specs.Device.{told_files}
use Rattle.ferry_disk.specs.Moments.{Between}
use Rattle.ferry_log.specs.State.{LogState}
use Rattle.ferry_mac.specs.declared.keys.Keys.{Keys}
use Rattle.ferry_manifest.specs.Manifest.Text.{ManifestText, manifest_view}
use Rattle.ferry_manifest.specs.Manifest.Writing.{IsPackable}
use Rattle.ferry_manifest.specs.Record.Text.{archive_view}
use Rattle.ferry_manifest.specs.Record.Writing.{IsPackableArchive}
use Rattle.ferry_manifest.specs.declared.manifest.Manifest.{Manifest}
use Rattle.ferry_next.specs.Next.{written_at}
use Rattle.ferry_piece.proofs.WorkLemmas.{err_is}
use Rattle.ferry_piece.specs.Fault.{IsOfWork, target_fault}
use Rattle.ferry_piece.specs.Work.{Works}
use Rattle.ferry_piece.specs.declared.fault.CarryFault.{CarryFault}
use Rattle.ferry_piece.specs.declared.fault.CarryFault.TheVariants as Carry
use Rattle.ferry_refs.proofs.DropLemmas.{untold_then}
use Rattle.ferry_refs.proofs.TagCauseLemmas.{adding_refused, freeing_refused, memory_is}
use Rattle.ferry_refs.proofs.TagLemmas.{accepted_is, chunks_kept, named_keys, named_unspent, renewals_length, some_olds, unwritten_keeps, works_unadded}
use Rattle.ferry_refs.proofs.TagLemmas.{tags_drawn, works_unnamed, works_unwritten, works_written}
use Rattle.ferry_refs.proofs.tagging.write_tagged.Goals as goal
use Rattle.ferry_refs.specs.Deleting.{LeavesCommitted}
use Rattle.ferry_refs.specs.TagSteps.{AddsTexts, Frees, FreesSound, IsNamedIn, RefusesFreeing, RefusesSome, RefusesWriting, SoundTagged, TagsWith, olds_view}
use Rattle.ferry_refs.specs.Tagging.{DrawsRenewals, next_tagged}
use Rattle.ferry_refs.specs.declared.untagged.Untagged.{Untagged}
use Rattle.ferry_repo.specs.Opening.{repo_view}
use Rattle.ferry_store.proofs.UseLemmas.{fits_named}
use Rattle.ferry_store.specs.Causes.{StopsAt}
use Rattle.ferry_store.specs.State.{Did}

pub add_records-requires-clause-packable : goal.add_records-requires-clause-packable
add_records-requires-clause-packable g c =
    subst (AllByRecursion (λ (u : Untagged). IsPackableArchive (archive_view u.archive))) (sym c.deref.ensures.value) c.requires.archives

pub returns-in_err-ids-clause-works : goal.returns-in_err-ids-clause-works
returns-in_err-ids-clause-works g c =
    let store = c.args.store.now in
    let time = c.args.time.now in
    let olds = olds_view c.args.old.now.untagged.items in
    let freed = c.args.old.now.freed.items in
    let now = c.add_records.new.store in
    let a = g.D.Shelf.told c.args.depot.now in
    let b = g.D.Shelf.told c.add_records.new.depot in
    let n = g.D.Shelf.faults c.args.depot.now in
    let m = g.D.Shelf.faults c.add_records.new.depot in
    let fault = c.in_err-ids.field-0.0 in
    let some = c.in_err-ids.ensures.added in
    err_is c.from_residual.result fault
    (λ (r : Result (Unit {0}) CarryFault). Works (SoundTagged time olds freed store) (λ _. TagsWith time (g.E.Entropy.drawn c.args.entropy.now)
    (g.E.Entropy.drawn c.add_records.new.entropy) olds freed store now) a b n m r)
    c.from_residual.ensures.1
    (works_unadded time olds freed store (λ _. AddsTexts some.0 store now) (λ (_ : Unit {0}). TagsWith time (g.E.Entropy.drawn c.args.entropy.now)
    (g.E.Entropy.drawn c.add_records.new.entropy) olds freed store now) a b n m fault some.1.0)

pub returns-in_err-ids-clause-refused : goal.returns-in_err-ids-clause-refused
returns-in_err-ids-clause-refused g c =
    let repo = repo_view c.args.store.now.repo in
    let time = c.args.time.now in
    let untagged = c.args.old.now.untagged.items in
    let a = g.D.Shelf.told c.args.depot.now in
    let b = g.D.Shelf.told c.add_records.new.depot in
    let fault = c.in_err-ids.field-0.0 in
    err_is c.from_residual.result fault
    (λ (r : Result (Unit {0}) CarryFault). IfErr r (λ (f : CarryFault). IfSome a
    (λ _. RefusesWriting repo time (olds_view untagged) (g.E.Entropy.drawn c.args.entropy.now)
    (g.E.Entropy.drawn c.add_records.new.entropy) b f)))
    c.from_residual.ensures.1
    (IfSome_then a c.in_err-ids.ensures.refused (λ _ r.
    adding_refused repo time (olds_view untagged) (g.E.Entropy.drawn c.args.entropy.now)
    (g.E.Entropy.drawn c.add_records.new.entropy) b fault
    (subst (λ (us : List Untagged). RefusesSome repo.keys (olds_view us) (g.E.Entropy.drawn c.args.entropy.now)
    (g.E.Entropy.drawn c.add_records.new.entropy) b fault) c.deref.ensures.value r)))

pub returns-in_err-ids-clause-keeps : goal.returns-in_err-ids-clause-keeps
returns-in_err-ids-clause-keeps g c =
    let store = c.args.store.now in
    let a = g.D.Shelf.told c.args.depot.now in
    let b = g.D.Shelf.told c.add_records.new.depot in
    err_is c.from_residual.result c.in_err-ids.field-0.0
    (λ (r : Result (Unit {0}) CarryFault). IfErr r (λ (f : CarryFault). IsOfWork f → Between a b (LeavesCommitted store))) c.from_residual.ensures.1
    (λ work. c.in_err-ids.ensures.added.1.0.each)

pub rename_archives-requires-clause-one_each : goal.rename_archives-requires-clause-one_each
rename_archives-requires-clause-one_each g c =
    let keys = (repo_view c.args.store.now.repo).keys in
    let some = c.in_ok-ids.ensures.added in
    let untagged = c.deref.result.now in
    ap (λ (l : List (List ℕ)). length l) (c.deref-3.ensures.value ∙ some.1.1.1)
    ∙ (renewals_length keys untagged some.0 some.1.1.0.0
    ∙ ap (λ (l : List Untagged). length l) (c.deref.ensures.value ∙ sym c.deref-2.ensures.value))

pub rename_archives-requires-clause-packable : goal.rename_archives-requires-clause-packable
rename_archives-requires-clause-packable g c =
    subst (λ (m : Manifest). IsPackable (manifest_view m)) (sym c.in_ok-ids.ensures.accepted) c.requires.packable

pub rename_archives-requires-clause-named : goal.rename_archives-requires-clause-named
rename_archives-requires-clause-named g c =
    subst (λ (m : Manifest). AllByRecursion (λ (u : Untagged). IsNamedIn (manifest_view m) u.named) c.deref-2.result.now) (sym c.in_ok-ids.ensures.accepted)
    (subst (λ (m : ManifestText). AllByRecursion (λ (u : Untagged). IsNamedIn m u.named) c.deref-2.result.now) (sym c.requires.settled)
    (subst (AllByRecursion (λ (u : Untagged). IsNamedIn (repo_view c.args.store.now.repo).manifest u.named)) (sym c.deref-2.ensures.value) c.requires.named))

pub returns-in_err-rename_archives-clause-works : goal.returns-in_err-rename_archives-clause-works
returns-in_err-rename_archives-clause-works g c =
    let store = c.args.store.now in
    let time = c.args.time.now in
    let olds = olds_view c.args.old.now.untagged.items in
    let freed = c.args.old.now.freed.items in
    let added = c.add_records.new.store in
    let now = c.rename_archives.new.store in
    let a = g.D.Shelf.told c.args.depot.now in
    let b = g.D.Shelf.told c.add_records.new.depot in
    let n = g.D.Shelf.faults c.args.depot.now in
    let m = g.D.Shelf.faults c.add_records.new.depot in
    let some = c.in_ok-ids.ensures.added in
    let memory = c.from_residual-in_err-rename_archives.ensures.1 in
    err_is c.from_residual-in_err-rename_archives.result Carry.Memory
    (λ (r : Result (Unit {0}) CarryFault). Works (SoundTagged time olds freed store) (λ _. TagsWith time (g.E.Entropy.drawn c.args.entropy.now)
    (g.E.Entropy.drawn c.add_records.new.entropy) olds freed store now) a b n m r)
    (memory_is c.from_residual-in_err-rename_archives.result c.in_err-rename_archives.field-0.0 c.in_err-rename_archives.ensures.refused memory)
    (works_unnamed time olds freed store (λ _. AddsTexts some.0 store added) (λ (_ : Unit {0}). TagsWith time (g.E.Entropy.drawn c.args.entropy.now)
    (g.E.Entropy.drawn c.add_records.new.entropy) olds freed store now) a b n m c.in_ok-ids.ids
    some.1.0)

pub returns-in_err-rename_archives-clause-refused : goal.returns-in_err-rename_archives-clause-refused
returns-in_err-rename_archives-clause-refused g c =
    let repo = repo_view c.args.store.now.repo in
    let time = c.args.time.now in
    let olds = olds_view c.args.old.now.untagged.items in
    let a = g.D.Shelf.told c.args.depot.now in
    let b = g.D.Shelf.told c.add_records.new.depot in
    err_is c.from_residual-in_err-rename_archives.result Carry.Memory
    (λ (r : Result (Unit {0}) CarryFault). IfErr r (λ (f : CarryFault). IfSome a (λ _. RefusesWriting repo time olds (g.E.Entropy.drawn c.args.entropy.now)
    (g.E.Entropy.drawn c.add_records.new.entropy) b f)))
    (memory_is c.from_residual-in_err-rename_archives.result c.in_err-rename_archives.field-0.0 c.in_err-rename_archives.ensures.refused
    c.from_residual-in_err-rename_archives.ensures.1)
    (told_any a (λ f. RefusesWriting repo time olds (g.E.Entropy.drawn c.args.entropy.now) (g.E.Entropy.drawn c.add_records.new.entropy) b Carry.Memory)
    (λ f. inl refl))

pub free_and_commit-requires-clause-unspent : goal.free_and_commit-requires-clause-unspent
free_and_commit-requires-clause-unspent g c =
    named_unspent c.add_records.new.store c.rename_archives.new.store c.rename_archives.ensures.rest c.in_ok-ids.ensures.unspent

pub free_and_commit-requires-clause-fits : goal.free_and_commit-requires-clause-fits
free_and_commit-requires-clause-fits g c =
    fits_named c.add_records.new.store c.rename_archives.new.store (g.D.Shelf.told c.add_records.new.depot) c.rename_archives.ensures.rest
    c.in_ok-ids.ensures.fits

pub free_and_commit-requires-clause-chunks : goal.free_and_commit-requires-clause-chunks
free_and_commit-requires-clause-chunks g c =
    let added = c.add_records.new.store in
    let named = c.rename_archives.new.store in
    let log : (repo_view named.repo).log ≡ (repo_view added.repo).log = ap (λ s. (repo_view s.repo).log) c.rename_archives.ensures.rest in
    subst (λ (l : LogState). AllByRecursion (IsChunk l) c.deref-4.result.now) (sym log)
    (chunks_kept (repo_view c.args.store.now.repo).log (repo_view added.repo).log c.deref-4.result.now c.in_ok-ids.ensures.repo.chunks
    (subst (AllByRecursion (IsChunk (repo_view c.args.store.now.repo).log)) (sym c.deref-4.ensures.value) c.requires.chunks))

pub returns-in_err-free_and_commit-clause-works : goal.returns-in_err-free_and_commit-clause-works
returns-in_err-free_and_commit-clause-works g c =
    let store = c.args.store.now in
    let time = c.args.time.now in
    let untagged = c.args.old.now.untagged.items in
    let olds = olds_view untagged in
    let freed = c.args.old.now.freed.items in
    let added = c.add_records.new.store in
    let named = c.rename_archives.new.store in
    let last = c.free_and_commit.new.store in
    let a = g.D.Shelf.told c.args.depot.now in
    let b = g.D.Shelf.told c.add_records.new.depot in
    let d = g.D.Shelf.told c.free_and_commit.new.depot in
    let n = g.D.Shelf.faults c.args.depot.now in
    let m = g.D.Shelf.faults c.add_records.new.depot in
    let k = g.D.Shelf.faults c.free_and_commit.new.depot in
    let keys = (repo_view store.repo).keys in
    let some = c.in_ok-ids.ensures.added in
    let drawn = g.E.Entropy.drawn c.args.entropy.now in
    let middle = g.E.Entropy.drawn c.add_records.new.entropy in
    let drawn_now = g.E.Entropy.drawn c.free_and_commit.new.entropy in
    let drew = subst (λ (us : List Untagged). DrawsRenewals keys (olds_view us) some.0 drawn middle) c.deref.ensures.value some.1.1.0 in
    let renewals = drew.0 in
    let accepted = accepted_is store added named untagged c.deref-2.result.now some.0 c.deref-3.result.now c.requires.settled c.in_ok-ids.ensures.accepted
    c.deref-2.ensures.value (c.deref-3.ensures.value ∙ some.1.1.1) c.in_ok-rename_archives.ensures.renamed in
    let refusal = c.in_err-free_and_commit.field-0.0 in
    let frees = subst (λ (ids : List (List ℕ)). Did {T = Unit {0}} (FreesSound time ids named) (λ _. Frees ids named last) b d m k (Err refusal))
    c.deref-4.ensures.value c.in_err-free_and_commit.ensures.did in
    err_is c.from_residual-in_err-free_and_commit.result (target_fault refusal)
    (λ (r : Result (Unit {0}) CarryFault). Works (SoundTagged time olds freed store) (λ _. TagsWith time drawn drawn_now olds freed store last) a d n k r)
    c.from_residual-in_err-free_and_commit.ensures.1
    (works_unwritten time drawn drawn_now olds some.0 freed store added named last c.in_ok-ids.ensures.repo c.rename_archives.ensures.rest
    (some_olds untagged c.requires.some) renewals accepted
    {U = Unit {0}} {V = Unit {0}} a b d n m k c.in_ok-ids.ids refusal c.free_and_commit.ensures.untold some.1.0 frees)

pub returns-in_err-free_and_commit-clause-untold : goal.returns-in_err-free_and_commit-clause-untold
returns-in_err-free_and_commit-clause-untold g c =
    untold_then (g.D.Shelf.told c.args.depot.now) (g.D.Shelf.told c.add_records.new.depot) (g.D.Shelf.told c.free_and_commit.new.depot)
    c.in_ok-ids.ensures.untold c.free_and_commit.ensures.untold

pub returns-in_err-free_and_commit-clause-refused : goal.returns-in_err-free_and_commit-clause-refused
returns-in_err-free_and_commit-clause-refused g c =
    let store = c.args.store.now in
    let repo = repo_view store.repo in
    let time = c.args.time.now in
    let untagged = c.args.old.now.untagged.items in
    let olds = olds_view untagged in
    let freed = c.args.old.now.freed.items in
    let added = c.add_records.new.store in
    let named = c.rename_archives.new.store in
    let last = c.free_and_commit.new.store in
    let a = g.D.Shelf.told c.args.depot.now in
    let d = g.D.Shelf.told c.free_and_commit.new.depot in
    let some = c.in_ok-ids.ensures.added in
    let drawn = g.E.Entropy.drawn c.args.entropy.now in
    let middle = g.E.Entropy.drawn c.add_records.new.entropy in
    let drawn_now = g.E.Entropy.drawn c.free_and_commit.new.entropy in
    let drew = subst (λ (us : List Untagged). DrawsRenewals repo.keys (olds_view us) some.0 drawn middle) c.deref.ensures.value some.1.1.0 in
    let renewals = drew.0 in
    let accepted = accepted_is store added named untagged c.deref-2.result.now some.0 c.deref-3.result.now c.requires.settled c.in_ok-ids.ensures.accepted
    c.deref-2.ensures.value (c.deref-3.ensures.value ∙ some.1.1.1) c.in_ok-rename_archives.ensures.renamed in
    let same = named_keys time drawn drawn_now olds some.0 freed store added named last c.in_ok-ids.ensures.repo c.rename_archives.ensures.rest
    (some_olds untagged c.requires.some) renewals accepted in
    let refusal = c.in_err-free_and_commit.field-0.0 in
    let refused = subst (λ (ks : Keys). RefusesFreeing ks (next_tagged repo.keys repo.manifest olds some.0 time) refusal) same
    (subst (λ (t : ManifestText). RefusesFreeing (repo_view named.repo).keys (written_at t time) refusal) accepted
    c.in_err-free_and_commit.ensures.refused) in
    let stops = subst (λ (ks : Keys). IfSome d (λ t. StopsAt t.history.start (told_files t) ks refusal)) same c.in_err-free_and_commit.ensures.stops in
    err_is c.from_residual-in_err-free_and_commit.result (target_fault refusal)
    (λ (r : Result (Unit {0}) CarryFault). IfErr r (λ (f : CarryFault). IfSome a (λ _. RefusesWriting repo time olds drawn drawn_now d f)))
    c.from_residual-in_err-free_and_commit.ensures.1
    (told_any a (λ f. RefusesWriting repo time olds drawn drawn_now d (target_fault refusal))
    (λ f. freeing_refused repo time olds drawn drawn_now some.0 d refusal renewals refused stops))

pub returns-in_err-free_and_commit-clause-keeps : goal.returns-in_err-free_and_commit-clause-keeps
returns-in_err-free_and_commit-clause-keeps g c =
    let store = c.args.store.now in
    let untagged = c.args.old.now.untagged.items in
    let olds = olds_view untagged in
    let freed = c.args.old.now.freed.items in
    let added = c.add_records.new.store in
    let named = c.rename_archives.new.store in
    let last = c.free_and_commit.new.store in
    let a = g.D.Shelf.told c.args.depot.now in
    let b = g.D.Shelf.told c.add_records.new.depot in
    let d = g.D.Shelf.told c.free_and_commit.new.depot in
    let n = g.D.Shelf.faults c.args.depot.now in
    let m = g.D.Shelf.faults c.add_records.new.depot in
    let keys = (repo_view store.repo).keys in
    let some = c.in_ok-ids.ensures.added in
    let drawn = g.E.Entropy.drawn c.args.entropy.now in
    let middle = g.E.Entropy.drawn c.add_records.new.entropy in
    let drawn_now = g.E.Entropy.drawn c.free_and_commit.new.entropy in
    let drew = subst (λ (us : List Untagged). DrawsRenewals keys (olds_view us) some.0 drawn middle) c.deref.ensures.value some.1.1.0 in
    let renewals = drew.0 in
    let accepted = accepted_is store added named untagged c.deref-2.result.now some.0 c.deref-3.result.now c.requires.settled c.in_ok-ids.ensures.accepted
    c.deref-2.ensures.value (c.deref-3.ensures.value ∙ some.1.1.1) c.in_ok-rename_archives.ensures.renamed in
    let refusal = c.in_err-free_and_commit.field-0.0 in
    err_is c.from_residual-in_err-free_and_commit.result (target_fault refusal)
    (λ (r : Result (Unit {0}) CarryFault). IfErr r (λ (f : CarryFault). IsOfWork f → Between a d (LeavesCommitted store)))
    c.from_residual-in_err-free_and_commit.ensures.1
    (λ work. unwritten_keeps c.args.time.now drawn drawn_now olds some.0 freed store added named last c.in_ok-ids.ensures.repo c.rename_archives.ensures.rest
    (some_olds untagged c.requires.some) renewals accepted
    a b d n m c.in_ok-ids.ids refusal some.1.0 c.in_err-free_and_commit.ensures.keeps work)

pub returns-clause-works : goal.returns-clause-works
returns-clause-works g c =
    let store = c.args.store.now in
    let time = c.args.time.now in
    let untagged = c.args.old.now.untagged.items in
    let olds = olds_view untagged in
    let freed = c.args.old.now.freed.items in
    let added = c.add_records.new.store in
    let named = c.rename_archives.new.store in
    let last = c.free_and_commit.new.store in
    let a = g.D.Shelf.told c.args.depot.now in
    let b = g.D.Shelf.told c.add_records.new.depot in
    let d = g.D.Shelf.told c.free_and_commit.new.depot in
    let n = g.D.Shelf.faults c.args.depot.now in
    let m = g.D.Shelf.faults c.add_records.new.depot in
    let k = g.D.Shelf.faults c.free_and_commit.new.depot in
    let keys = (repo_view store.repo).keys in
    let some = c.in_ok-ids.ensures.added in
    let drawn = g.E.Entropy.drawn c.args.entropy.now in
    let middle = g.E.Entropy.drawn c.add_records.new.entropy in
    let drawn_now = g.E.Entropy.drawn c.free_and_commit.new.entropy in
    let drew = subst (λ (us : List Untagged). DrawsRenewals keys (olds_view us) some.0 drawn middle) c.deref.ensures.value some.1.1.0 in
    let renewals = drew.0 in
    let accepted = accepted_is store added named untagged c.deref-2.result.now some.0 c.deref-3.result.now c.requires.settled c.in_ok-ids.ensures.accepted
    c.deref-2.ensures.value (c.deref-3.ensures.value ∙ some.1.1.1) c.in_ok-rename_archives.ensures.renamed in
    let frees = subst (λ (ids : List (List ℕ)). Did {T = Unit {0}} (FreesSound time ids named) (λ _. Frees ids named last) b d m k (Ok tt))
    c.deref-4.ensures.value c.in_ok-free_and_commit.ensures.did in
    works_written time drawn drawn_now olds some.0 freed store added named last c.in_ok-ids.ensures.repo c.rename_archives.ensures.rest
    (some_olds untagged c.requires.some) renewals accepted
    {U = Unit {0}} {V = Unit {0}} a b d n m k c.in_ok-ids.ids tt tt c.in_ok-free_and_commit.ensures.manifest
    (tags_drawn keys olds some.0 drawn middle drawn_now (some_olds untagged c.requires.some) drew c.in_ok-free_and_commit.ensures.drawn)
    c.free_and_commit.ensures.untold some.1.0 frees

pub returns-clause-untold : goal.returns-clause-untold
returns-clause-untold g c =
    untold_then (g.D.Shelf.told c.args.depot.now) (g.D.Shelf.told c.add_records.new.depot) (g.D.Shelf.told c.free_and_commit.new.depot)
    c.in_ok-ids.ensures.untold c.free_and_commit.ensures.untold
