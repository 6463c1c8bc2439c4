use Rattle.std.proofs.Common.{rules, ◌≡◌, ℕ, List, length, eqb-true, Result, Ok, Err, IfErr, IfSome, refl, sym, ◌∙◌, ap, subst, ◌⊎◌, inl}
use Rattle.std.proofs.lemmas.List.{length-map}
use Rattle.std.specs.Option.{option_copied}
use Rattle.std.specs.Vec.{vec_len}
use Rattle.ferry_disk.specs.Device.{told_files}
use Rattle.ferry_disk.specs.Moments.{Between}
use Rattle.ferry_manifest.specs.Manifest.Writing.{IsPackable}
use Rattle.ferry_piece.proofs.WorkLemmas.{err_is}
use Rattle.ferry_piece.specs.Fault.{IsOfReading, IsOfWork, target_fault}
use Rattle.ferry_piece.specs.Work.{Works}
use Rattle.ferry_piece.specs.declared.fault.CarryFault.{CarryFault}
use Rattle.ferry_piece.specs.declared.fault.CarryFault.TheVariants as Carry
use Rattle.ferry_refs.proofs.DropLemmas.{untold_then}
use Rattle.ferry_refs.proofs.TagCauseLemmas.{reading_refused, told_writing_refused, told_writing_new}
use Rattle.ferry_refs.proofs.TaggingLemmas.{at_old, no_items, read_accepted, read_unspent, untagged_keeps, works_needless, works_tagged, works_unread}
use Rattle.ferry_refs.proofs.TaggingLemmas.{works_untagged, works_untimed}
use Rattle.ferry_refs.proofs.tagging.tag_archives.Goals as goal
use Rattle.ferry_refs.specs.Deleting.{LeavesCommitted, time_of}
use Rattle.ferry_refs.specs.TagSteps.{RefusesWriting, SoundTagged, TagsWith, olds_view, old_view}
use Rattle.ferry_refs.specs.Tagging.{RefusesTagging, Tags, TagsSound, IsOfNewRecord}
use Rattle.ferry_refs.specs.declared.untagged.Untagged.{Untagged}
use Rattle.ferry_repo.specs.Opening.{RepoState, repo_view}

pub returns-in_err-old-clause-works : goal.returns-in_err-old-clause-works
returns-in_err-old-clause-works g c =
    let store = c.args.store.now in
    let read = c.read_old.new.store in
    let time = time_of (option_copied c.args.timestamp) (repo_view store.repo).manifest in
    let a = g.D.Shelf.told c.args.depot.now in
    let b = g.D.Shelf.told c.read_old.new.depot in
    let n = g.D.Shelf.faults c.args.depot.now in
    let m = g.D.Shelf.faults c.read_old.new.depot in
    let refusal = c.in_err-old.field-0.0 in
    err_is c.from_residual.result (target_fault refusal)
    (λ (r : Result ℕ CarryFault). Works (TagsSound time store) (λ count. Tags time (g.E.Entropy.drawn c.args.entropy.now)
    (g.E.Entropy.drawn c.args.entropy.now) store read count) a b n m r) c.from_residual.ensures.1
    (works_unread _ (λ (count : ℕ). Tags time (g.E.Entropy.drawn c.args.entropy.now)
    (g.E.Entropy.drawn c.args.entropy.now) store read count) time store a b n m refusal c.in_err-old.ensures.untold c.in_err-old.ensures.did)

pub returns-in_err-old-clause-refused : goal.returns-in_err-old-clause-refused
returns-in_err-old-clause-refused g c =
    let repo = repo_view c.args.store.now.repo in
    let time = time_of (option_copied c.args.timestamp) repo.manifest in
    let a = g.D.Shelf.told c.args.depot.now in
    let b = g.D.Shelf.told c.read_old.new.depot in
    let refusal = c.in_err-old.field-0.0 in
    err_is c.from_residual.result (target_fault refusal)
    (λ (r : Result ℕ CarryFault). IfErr r (λ (f : CarryFault). IfSome a (λ t. RefusesTagging (told_files t) repo time (g.E.Entropy.drawn c.args.entropy.now)
    (g.E.Entropy.drawn c.args.entropy.now) b f))) c.from_residual.ensures.1
    (reading_refused a b repo time (g.E.Entropy.drawn c.args.entropy.now) (g.E.Entropy.drawn c.args.entropy.now) refusal c.in_err-old.ensures.refused)

pub returns-in_err-old-clause-keeps : goal.returns-in_err-old-clause-keeps
returns-in_err-old-clause-keeps g c =
    let store = c.args.store.now in
    let a = g.D.Shelf.told c.args.depot.now in
    let b = g.D.Shelf.told c.read_old.new.depot in
    err_is c.from_residual.result (target_fault c.in_err-old.field-0.0)
    (λ (r : Result ℕ CarryFault). IfErr r (λ (f : CarryFault). IsOfWork f → Between a b (LeavesCommitted store))) c.from_residual.ensures.1
    (λ work. c.in_err-old.ensures.did.each)

pub returns-then-is_empty-clause-works : goal.returns-then-is_empty-clause-works
returns-then-is_empty-clause-works g c =
    let store = c.args.store.now in
    let read = c.read_old.new.store in
    let time = time_of (option_copied c.args.timestamp) (repo_view store.repo).manifest in
    let old = c.in_ok-old.old in
    let same : vec_len old.untagged ≡ length old.untagged.items = search rules in
    let zero : vec_len old.untagged ≡ 0 = eqb-true (vec_len old.untagged) 0 (sym c.is_empty.ensures ∙ c.if-is_empty.true) in
    let none = no_items old.untagged.items (sym same ∙ zero) in
    works_needless time (g.E.Entropy.drawn c.args.entropy.now) (g.E.Entropy.drawn c.args.entropy.now) store read
    (olds_view old.untagged.items) old.freed.items (g.D.Shelf.told c.args.depot.now) (g.D.Shelf.told c.read_old.new.depot)
    (g.D.Shelf.faults c.args.depot.now) (g.D.Shelf.faults c.read_old.new.depot) old
    refl (ap (λ (us : List Untagged). olds_view us) none) c.in_ok-old.ensures.untold
    (at_old store read old c.in_ok-old.ensures.did)

pub returns-in_err-time-clause-works : goal.returns-in_err-time-clause-works
returns-in_err-time-clause-works g c =
    let store = c.args.store.now in
    let read = c.read_old.new.store in
    let time = time_of (option_copied c.args.timestamp) (repo_view store.repo).manifest in
    let a = g.D.Shelf.told c.args.depot.now in
    let b = g.D.Shelf.told c.read_old.new.depot in
    let n = g.D.Shelf.faults c.args.depot.now in
    let m = g.D.Shelf.faults c.read_old.new.depot in
    err_is c.from_residual-in_err-time.result Carry.Memory
    (λ (r : Result ℕ CarryFault). Works (TagsSound time store) (λ count. Tags time (g.E.Entropy.drawn c.args.entropy.now)
    (g.E.Entropy.drawn c.args.entropy.now) store read count) a b n m r) c.from_residual-in_err-time.ensures.1
    (works_untimed _ (λ (count : ℕ). Tags time (g.E.Entropy.drawn c.args.entropy.now)
    (g.E.Entropy.drawn c.args.entropy.now) store read count) time store a b n m c.in_ok-old.old c.in_ok-old.ensures.did)

pub write_tagged-requires-clause-unspent : goal.write_tagged-requires-clause-unspent
write_tagged-requires-clause-unspent g c = read_unspent c.args.store.now c.read_old.new.store c.in_ok-old.ensures.read c.requires.unspent

pub write_tagged-requires-clause-packable : goal.write_tagged-requires-clause-packable
write_tagged-requires-clause-packable g c =
    subst IsPackable (sym (read_accepted c.args.store.now c.read_old.new.store c.in_ok-old.ensures.read)) c.requires.packable

pub write_tagged-requires-clause-settled : goal.write_tagged-requires-clause-settled
write_tagged-requires-clause-settled g c =
    read_accepted c.args.store.now c.read_old.new.store c.in_ok-old.ensures.read
    ∙ (c.requires.settled ∙ ap (λ (r : RepoState). r.manifest) (sym c.in_ok-old.ensures.read.repo))

pub returns-in_err-write_tagged-clause-works : goal.returns-in_err-write_tagged-clause-works
returns-in_err-write_tagged-clause-works g c =
    let store = c.args.store.now in
    let read = c.read_old.new.store in
    let last = c.write_tagged.new.store in
    let time = time_of (option_copied c.args.timestamp) (repo_view store.repo).manifest in
    let old = c.in_ok-old.old in
    let olds = olds_view old.untagged.items in
    let ids = old.freed.items in
    let a = g.D.Shelf.told c.args.depot.now in
    let b = g.D.Shelf.told c.read_old.new.depot in
    let d = g.D.Shelf.told c.write_tagged.new.depot in
    let n = g.D.Shelf.faults c.args.depot.now in
    let m = g.D.Shelf.faults c.read_old.new.depot in
    let k = g.D.Shelf.faults c.write_tagged.new.depot in
    let fault = c.in_err-write_tagged.field-0.0 in
    let same = c.in_ok-old.ensures.read.repo in
    let time_is : c.deref.result.now ≡ time =
    c.deref.ensures.value ∙ (c.in_ok-time.ensures.time ∙ ap (λ (r : RepoState). time_of (option_copied c.args.timestamp) r.manifest) same) in
    err_is c.from_residual-in_err-write_tagged.result fault
    (λ (r : Result ℕ CarryFault). Works (TagsSound time store) (λ count. Tags time (g.E.Entropy.drawn c.args.entropy.now)
    (g.E.Entropy.drawn c.write_tagged.new.entropy) store last count) a d n k r)
    c.from_residual-in_err-write_tagged.ensures.1
    (works_untagged time (g.E.Entropy.drawn c.args.entropy.now) (g.E.Entropy.drawn c.write_tagged.new.entropy) store read last olds ids same
    {U = Unit {0}} a b d n m k old fault c.in_ok-old.ensures.untold
    (at_old store read old c.in_ok-old.ensures.did)
    (subst (λ (t : List ℕ). Works {T = Unit {0}} (SoundTagged t olds ids read) (λ _. TagsWith t (g.E.Entropy.drawn c.args.entropy.now)
    (g.E.Entropy.drawn c.write_tagged.new.entropy) olds ids read last) b d m k (Err fault)) time_is
    c.in_err-write_tagged.ensures.works))

pub returns-in_err-write_tagged-clause-untold : goal.returns-in_err-write_tagged-clause-untold
returns-in_err-write_tagged-clause-untold g c =
    untold_then (g.D.Shelf.told c.args.depot.now) (g.D.Shelf.told c.read_old.new.depot) (g.D.Shelf.told c.write_tagged.new.depot)
    c.in_ok-old.ensures.untold c.write_tagged.ensures.untold

pub returns-in_err-write_tagged-clause-refused : goal.returns-in_err-write_tagged-clause-refused
returns-in_err-write_tagged-clause-refused g c =
    let store = c.args.store.now in
    let read = c.read_old.new.store in
    let repo = repo_view store.repo in
    let time = time_of (option_copied c.args.timestamp) repo.manifest in
    let old = c.in_ok-old.old in
    let olds = olds_view old.untagged.items in
    let a = g.D.Shelf.told c.args.depot.now in
    let b = g.D.Shelf.told c.read_old.new.depot in
    let d = g.D.Shelf.told c.write_tagged.new.depot in
    let fault = c.in_err-write_tagged.field-0.0 in
    let same = c.in_ok-old.ensures.read.repo in
    let time_is : c.deref.result.now ≡ time =
    c.deref.ensures.value ∙ (c.in_ok-time.ensures.time ∙ ap (λ (r : RepoState). time_of (option_copied c.args.timestamp) r.manifest) same) in
    let refused = subst (λ (r : RepoState). IfSome b (λ _. RefusesWriting r time olds (g.E.Entropy.drawn c.args.entropy.now)
    (g.E.Entropy.drawn c.write_tagged.new.entropy) d fault)) same
    (subst (λ (t : List ℕ). IfSome b (λ _. RefusesWriting (repo_view read.repo) t olds (g.E.Entropy.drawn c.args.entropy.now)
    (g.E.Entropy.drawn c.write_tagged.new.entropy) d fault)) time_is c.in_err-write_tagged.ensures.refused) in
    err_is c.from_residual-in_err-write_tagged.result fault
    (λ (r : Result ℕ CarryFault). IfErr r (λ (f : CarryFault). IfSome a (λ t. RefusesTagging (told_files t) repo time (g.E.Entropy.drawn c.args.entropy.now)
    (g.E.Entropy.drawn c.write_tagged.new.entropy) d f)))
    c.from_residual-in_err-write_tagged.ensures.1
    (told_writing_refused store read olds old.freed.items a b (g.E.Entropy.drawn c.args.entropy.now)
    (g.E.Entropy.drawn c.write_tagged.new.entropy) d time fault (at_old store read old c.in_ok-old.ensures.did).end refused)

pub returns-in_err-write_tagged-clause-keeps : goal.returns-in_err-write_tagged-clause-keeps
returns-in_err-write_tagged-clause-keeps g c =
    let store = c.args.store.now in
    let read = c.read_old.new.store in
    let time = time_of (option_copied c.args.timestamp) (repo_view store.repo).manifest in
    let old = c.in_ok-old.old in
    let a = g.D.Shelf.told c.args.depot.now in
    let b = g.D.Shelf.told c.read_old.new.depot in
    let d = g.D.Shelf.told c.write_tagged.new.depot in
    let n = g.D.Shelf.faults c.args.depot.now in
    let m = g.D.Shelf.faults c.read_old.new.depot in
    let fault = c.in_err-write_tagged.field-0.0 in
    err_is c.from_residual-in_err-write_tagged.result fault
    (λ (r : Result ℕ CarryFault). IfErr r (λ (f : CarryFault). IsOfWork f → Between a d (LeavesCommitted store)))
    c.from_residual-in_err-write_tagged.ensures.1
    (λ work. untagged_keeps time (g.E.Entropy.drawn c.args.entropy.now) (g.E.Entropy.drawn c.write_tagged.new.entropy) store read read
    (olds_view old.untagged.items) old.freed.items c.in_ok-old.ensures.read.repo a b d n m old
    (at_old store read old c.in_ok-old.ensures.did) (c.in_err-write_tagged.ensures.keeps work))

pub returns-clause-works : goal.returns-clause-works
returns-clause-works g c =
    let store = c.args.store.now in
    let read = c.read_old.new.store in
    let last = c.write_tagged.new.store in
    let time = time_of (option_copied c.args.timestamp) (repo_view store.repo).manifest in
    let old = c.in_ok-old.old in
    let olds = olds_view old.untagged.items in
    let ids = old.freed.items in
    let a = g.D.Shelf.told c.args.depot.now in
    let b = g.D.Shelf.told c.read_old.new.depot in
    let d = g.D.Shelf.told c.write_tagged.new.depot in
    let n = g.D.Shelf.faults c.args.depot.now in
    let m = g.D.Shelf.faults c.read_old.new.depot in
    let k = g.D.Shelf.faults c.write_tagged.new.depot in
    let same = c.in_ok-old.ensures.read.repo in
    let time_is : c.deref.result.now ≡ time =
    c.deref.ensures.value ∙ (c.in_ok-time.ensures.time ∙ ap (λ (r : RepoState). time_of (option_copied c.args.timestamp) r.manifest) same) in
    let count_is : c.len.result ≡ length old.untagged.items = search rules in
    works_tagged time (g.E.Entropy.drawn c.args.entropy.now) (g.E.Entropy.drawn c.write_tagged.new.entropy) store read last olds ids same
    {U = Unit {0}} a b d n m k old tt c.len.result
    (count_is ∙ sym (length-map old.untagged.items old_view)) c.in_ok-old.ensures.untold (at_old store read old c.in_ok-old.ensures.did)
    (subst (λ (t : List ℕ). Works {T = Unit {0}} (SoundTagged t olds ids read) (λ _. TagsWith t (g.E.Entropy.drawn c.args.entropy.now)
    (g.E.Entropy.drawn c.write_tagged.new.entropy) olds ids read last) b d m k (Ok tt)) time_is
    c.in_ok-write_tagged.ensures.works)

pub returns-clause-untold : goal.returns-clause-untold
returns-clause-untold g c =
    untold_then (g.D.Shelf.told c.args.depot.now) (g.D.Shelf.told c.read_old.new.depot) (g.D.Shelf.told c.write_tagged.new.depot)
    c.in_ok-old.ensures.untold c.in_ok-write_tagged.ensures.untold

pub returns-in_err-old-clause-unwritten : goal.returns-in_err-old-clause-unwritten
returns-in_err-old-clause-unwritten g c =
    let a = g.D.Shelf.told c.args.depot.now in
    let b = g.D.Shelf.told c.read_old.new.depot in
    err_is c.from_residual.result (target_fault c.in_err-old.field-0.0)
    (λ (r : Result ℕ CarryFault). IfErr r (λ (f : CarryFault). IsOfReading f → Between a b (λ h g. g ≡ h)
    ⊎ IfSome a (λ t. IsOfNewRecord (told_files t) (repo_view c.args.store.now.repo)
    (g.E.Entropy.drawn c.args.entropy.now) (g.E.Entropy.drawn c.args.entropy.now) b f)))
    c.from_residual.ensures.1 (λ of. inl c.in_err-old.ensures.same)

pub returns-in_err-time-clause-unwritten : goal.returns-in_err-time-clause-unwritten
returns-in_err-time-clause-unwritten g c =
    let a = g.D.Shelf.told c.args.depot.now in
    let b = g.D.Shelf.told c.read_old.new.depot in
    err_is c.from_residual-in_err-time.result Carry.Memory
    (λ (r : Result ℕ CarryFault). IfErr r (λ (f : CarryFault). IsOfReading f → Between a b (λ h g. g ≡ h)
    ⊎ IfSome a (λ t. IsOfNewRecord (told_files t) (repo_view c.args.store.now.repo)
    (g.E.Entropy.drawn c.args.entropy.now) (g.E.Entropy.drawn c.args.entropy.now) b f)))
    c.from_residual-in_err-time.ensures.1 (λ of. absurd of)

pub returns-in_err-write_tagged-clause-unwritten : goal.returns-in_err-write_tagged-clause-unwritten
returns-in_err-write_tagged-clause-unwritten g c =
    let store = c.args.store.now in
    let read = c.read_old.new.store in
    let old = c.in_ok-old.old in
    let olds = olds_view old.untagged.items in
    let a = g.D.Shelf.told c.args.depot.now in
    let b = g.D.Shelf.told c.read_old.new.depot in
    let d = g.D.Shelf.told c.write_tagged.new.depot in
    let fault = c.in_err-write_tagged.field-0.0 in
    let refused = subst (λ (r : RepoState). IfSome b (λ _. RefusesWriting r c.deref.result.now olds (g.E.Entropy.drawn c.args.entropy.now)
    (g.E.Entropy.drawn c.write_tagged.new.entropy) d fault)) c.in_ok-old.ensures.read.repo c.in_err-write_tagged.ensures.refused in
    err_is c.from_residual-in_err-write_tagged.result fault
    (λ (r : Result ℕ CarryFault). IfErr r (λ (f : CarryFault). IsOfReading f → Between a d (λ h g. g ≡ h)
    ⊎ IfSome a (λ t. IsOfNewRecord (told_files t) (repo_view c.args.store.now.repo)
    (g.E.Entropy.drawn c.args.entropy.now) (g.E.Entropy.drawn c.write_tagged.new.entropy) d f)))
    c.from_residual-in_err-write_tagged.ensures.1
    (told_writing_new store read olds old.freed.items a b (g.E.Entropy.drawn c.args.entropy.now) (g.E.Entropy.drawn c.write_tagged.new.entropy) d
    c.deref.result.now fault (at_old store read old c.in_ok-old.ensures.did).end c.in_ok-old.ensures.untold c.in_err-write_tagged.ensures.untold refused)
