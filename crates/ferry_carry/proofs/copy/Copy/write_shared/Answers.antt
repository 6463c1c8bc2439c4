use Rattle.std.proofs.Common.{◌≡◌, ◌≤◌, ◌-◌, ◌++◌, [], ◌∷◌, List, ℕ, Some, Result, Ok, Err, IfErr, IfSome, All}
use Rattle.std.proofs.Common.{length, min, take, drop, get_or, refl, sym, ◌∙◌, ap, subst}
use Rattle.std.specs.List.{AllByRecursion, concat}
use Rattle.ferry_compare.proofs.StepLemmas.{at_first}
use Rattle.ferry_disk.specs.Device.{told_files}
use Rattle.ferry_item.specs.declared.item.ChunkRef.{ChunkRef}
use Rattle.ferry_carry.proofs.KnownLemmas.{ids_hold, pieces_named}
use Rattle.ferry_carry.proofs.PartsLemmas.{by_source, bytes_then, bytes_wider, chunks_none, chunks_of_bytes, err_both, first_and, first_fills, first_refused}
use Rattle.ferry_carry.proofs.PartsLemmas.{last_there, one_comes, one_split, parts_refused, parts_then, parts_wider, rest_of, shared_bytes, stands_at}
use Rattle.ferry_carry.proofs.copy.Copy.write_shared.Goals as goal
use Rattle.ferry_carry.specs.Filling.{FillsChunks, WhereSource}
use Rattle.ferry_carry.specs.Parts.{StandsBehind, WritesChunks}
use Rattle.ferry_carry.specs.Refusals.{RefusesContents}
use Rattle.ferry_carry.specs.States.{target_state}
use Rattle.ferry_piece.proofs.WorkLemmas.{err_is}
use Rattle.ferry_piece.specs.Fault.{source_fault}
use Rattle.ferry_mac.specs.declared.keys.Keys.{Keys}
use Rattle.ferry_piece.proofs.GatherLemmas.{rest_then}
use Rattle.ferry_piece.specs.Gather.{chunks_of}
use Rattle.ferry_piece.specs.Puts.{Content, IsCheckpoint, contents_in}
use Rattle.ferry_piece.specs.declared.fault.CarryFault.{CarryFault}
use Rattle.ferry_repo.specs.Archives.{HoldsContent, RefusesContent, RefusesJoined}
use Rattle.ferry_repo.specs.Opening.{repo_view}
use Rattle.ferry_store.specs.Adding.{IsAnswered, id_under}

-- the chunk that is read where there is none
abbrev none : ChunkRef
none = record { id = []; size = 0; csize = 0 }

pub returns-in_err-content-clause-written : goal.returns-in_err-content-clause-written
returns-in_err-content-clause-written g c =
    let told = g.S.Shelf.told c.args.shelf.now in
    let source = repo_view c.args.source.now in
    let writer = c.args.self.now.contents in
    let target = target_state (g.D.Shelf.told c.args.depot.now) (g.D.Shelf.faults c.args.depot.now) c.args.store.now in
    let refs = c.args.chunks.now in
    let fault = c.in_err-content.field-0.0 in
    err_is c.from_residual.result (source_fault fault)
    (λ (r : Result (Unit {0}) CarryFault). WritesChunks writer.checkpoint told source target target refs writer writer r) c.from_residual.ensures.1
    (chunks_none {T = Unit {0}} writer.checkpoint told source target refs writer writer fault
    (first_fills told source refs none writer.cutter fault c.requires.some c.requires.writer.room c.in_err-content.ensures.refused))

pub returns-in_err-content-clause-refused : goal.returns-in_err-content-clause-refused
returns-in_err-content-clause-refused g c =
    let told = g.S.Shelf.told c.args.shelf.now in
    let source = repo_view c.args.source.now in
    let refs = c.args.chunks.now in
    let fault = c.in_err-content.field-0.0 in
    err_is c.from_residual.result (source_fault fault) (λ (r : Result (Unit {0}) CarryFault). IfErr r (RefusesContents told source refs))
    c.from_residual.ensures.1
    (by_source (RefusesContents told source refs) fault tt
    (first_refused told source refs none fault c.requires.some c.in_err-content.ensures.refused))

pub returns-in_err-behind-clause-written : goal.returns-in_err-behind-clause-written
returns-in_err-behind-clause-written g c =
    let told = g.S.Shelf.told c.args.shelf.now in
    let later = g.S.Shelf.told c.content_of.new.shelf in
    let source = repo_view c.args.source.now in
    let after = repo_view c.content_of.new.source in
    let writer = c.args.self.now.contents in
    let target = target_state (g.D.Shelf.told c.args.depot.now) (g.D.Shelf.faults c.args.depot.now) c.args.store.now in
    let refs = c.args.chunks.now in
    let fault = c.in_err-behind.field-0.0 in
    let read = c.in_ok-content.ensures.source in
    err_is c.from_residual-in_err-behind.result (source_fault fault)
    (λ (r : Result (Unit {0}) CarryFault). WritesChunks writer.checkpoint told source target target refs writer writer r)
    c.from_residual-in_err-behind.ensures.1
    (chunks_none {T = Unit {0}} writer.checkpoint told source target refs writer writer fault
    (last_there told source _ _ refs c.args.shared.now none fault (λ f. FillsChunks f source refs writer.cutter fault []) c.requires.shares
    (λ of_files. at_first told later source after (λ r f. RefusesContent f r.log r.keys (get_or refs (length refs - 1) none) fault) read.same read.kept
    (c.in_err-behind.ensures.refused of_files))))

pub returns-in_err-behind-clause-refused : goal.returns-in_err-behind-clause-refused
returns-in_err-behind-clause-refused g c =
    let told = g.S.Shelf.told c.args.shelf.now in
    let later = g.S.Shelf.told c.content_of.new.shelf in
    let source = repo_view c.args.source.now in
    let after = repo_view c.content_of.new.source in
    let refs = c.args.chunks.now in
    let fault = c.in_err-behind.field-0.0 in
    let read = c.in_ok-content.ensures.source in
    err_is c.from_residual-in_err-behind.result (source_fault fault) (λ (r : Result (Unit {0}) CarryFault). IfErr r (RefusesContents told source refs))
    c.from_residual-in_err-behind.ensures.1
    (by_source (RefusesContents told source refs) fault tt
    (last_there told source _ _ refs c.args.shared.now none fault (λ f. RefusesJoined f source.log source.keys (Some refs) fault) c.requires.shares
    (λ of_files. at_first told later source after (λ r f. RefusesContent f r.log r.keys (get_or refs (length refs - 1) none) fault) read.same read.kept
    (c.in_err-behind.ensures.refused of_files))))

pub returns-in_err-write-clause-written : goal.returns-in_err-write-clause-written
returns-in_err-write-clause-written g c =
    let told = g.S.Shelf.told c.args.shelf.now in
    let source = repo_view c.args.source.now in
    let writer = c.args.self.now.contents in
    let left = c.write.new.self in
    let target = target_state (g.D.Shelf.told c.args.depot.now) (g.D.Shelf.faults c.args.depot.now) c.args.store.now in
    let now = target_state (g.D.Shelf.told c.write.new.depot) (g.D.Shelf.faults c.write.new.depot) c.write.new.store in
    let refs = c.args.chunks.now in
    let one = get_or refs 0 none in
    let first = c.deref.result.now in
    let count = c.min-skip.result in
    let fault = c.in_err-write.field-0.0 in
    let comes : IfSome told (λ t. HoldsContent (told_files t) source.log source.keys one first) =
    subst (λ (b : List ℕ). IfSome told (λ t. HoldsContent (told_files t) source.log source.keys one b)) (sym c.deref.ensures.value)
    c.in_ok-content.ensures.content in
    err_is c.from_residual-in_err-write.result fault
    (λ (r : Result (Unit {0}) CarryFault). WritesChunks writer.checkpoint told source target now refs writer left r) c.from_residual-in_err-write.ensures.1
    (parts_wider {T = Unit {0}} writer.checkpoint told source target now (one ∷ []) (take (length refs - 1) (drop 1 refs)) refs writer left fault
    (first_and refs none c.requires.some)
    (chunks_of_bytes {T = Unit {0}} writer.checkpoint told source target now (one ∷ []) (first ∷ []) (take count first ++ drop count first) writer left
    (Err fault) (one_comes told source one first comes) (one_split count first) c.in_err-write.ensures.target
    (bytes_wider {T = Unit {0}} writer.checkpoint target now (take count first) (drop count first) writer left fault
    (c.in_err-write.ensures.written Content refl))))

pub write_known-requires-clause-writer : goal.write_known-requires-clause-writer
write_known-requires-clause-writer g c =
    let wrote = c.in_ok-write.ensures.written Content refl in record {
      most = subst (λ (n : ℕ). n ≤ 8388608) (sym wrote.1.1.1.1.0.block) c.requires.writer.most;
      room = wrote.1.1.1.1.0.room;
      checkpoint = subst IsCheckpoint (sym c.in_ok-write.ensures.checkpoint) c.requires.writer.checkpoint;
    }

pub returns-then-are_known-clause-written : goal.returns-then-are_known-clause-written
returns-then-are_known-clause-written g c =
    let told = g.S.Shelf.told c.args.shelf.now in
    let later = g.S.Shelf.told c.content_of.new.shelf in
    let source = repo_view c.args.source.now in
    let after = repo_view c.content_of.new.source in
    let writer = c.args.self.now.contents in
    let written = c.write.new.self in
    let left = c.write_known.new.writer in
    let store = c.args.store.now in
    let stored = c.write.new.store in
    let target = target_state (g.D.Shelf.told c.args.depot.now) (g.D.Shelf.faults c.args.depot.now) store in
    let middle = target_state (g.D.Shelf.told c.write.new.depot) (g.D.Shelf.faults c.write.new.depot) stored in
    let now = target_state (g.D.Shelf.told c.write_known.new.depot) (g.D.Shelf.faults c.write_known.new.depot) c.write_known.new.store in
    let keys = (repo_view store.repo).keys in
    let keys_now = (repo_view stored.repo).keys in
    let refs = c.args.chunks.now in
    let shared = c.args.shared.now in
    let has = c.requires.shares in
    let wholes = has.has.wholes in
    let first = c.deref.result.now in
    let behind = c.deref-then-are_known.result.now in
    let count = c.min-skip.result in
    let read = c.in_ok-content.ensures.source in
    let wrote = c.in_ok-write.ensures.written Content refl in
    let comes : IfSome told (λ t. HoldsContent (told_files t) source.log source.keys (get_or refs 0 none) first) =
    subst (λ (b : List ℕ). IfSome told (λ t. HoldsContent (told_files t) source.log source.keys (get_or refs 0 none) b)) (sym c.deref.ensures.value)
    c.in_ok-content.ensures.content in
    let stands : StandsBehind told source (get_or refs (length refs - 1) none) shared.left behind =
    subst (StandsBehind told source (get_or refs (length refs - 1) none) shared.left) (sym c.deref-then-are_known.ensures.value)
    (stands_at told later source after (get_or refs (length refs - 1) none) shared.left c.in_ok-behind.behind.items read.same read.kept
    c.in_ok-behind.ensures.behind) in
    let made : shared.pieces ≡ chunks_of keys_now wholes =
    has.has.pieces_are ∙ (pieces_named keys wholes ∙ ap (λ (k : Keys). chunks_of k wholes) (sym c.in_ok-write.ensures.rest.keys)) in
    let are : c.as_slice-then-are_known.result.now ≡ chunks_of keys_now wholes = c.as_slice-then-are_known.ensures.chunks ∙ made in
    let full : All (λ (one : List ℕ). length one ≡ written.cutter.block) wholes =
    subst (λ (n : ℕ). All (λ (one : List ℕ). length one ≡ n) wholes) (sym wrote.1.1.1.1.0.block) has.has.full in
    let answered : AllByRecursion (λ (one : List ℕ). IsAnswered stored (id_under stored one)) wholes =
    ids_hold (IsAnswered stored) keys_now wholes
    (subst (AllByRecursion (λ (piece : ChunkRef). IsAnswered stored piece.id)) (c.as_slice.ensures.chunks ∙ made)
    (c.are_known.ensures.known c.if-are_known.true)) in
    let bytes = shared_bytes told source keys.id_key writer.cutter.block refs shared none none first behind has comes stands in
    let least : min shared.skip (length first) ≡ count = sym (c.min-skip.ensures ∙ ap (min shared.skip) (c.len.ensures ∙ sym c.deref.ensures.len)) in
    chunks_of_bytes {T = Unit {0}} writer.checkpoint told source target now refs bytes.contents (take count first ++ (concat wholes ++ behind)) writer left
    c.write_known.result bytes.come
    (bytes.is ∙ ap (λ (n : ℕ). take n first ++ (concat wholes ++ behind)) least) c.write_known.ensures.refusal.target
    (bytes_then {T = Unit {0}} {U = Unit {0}} writer.checkpoint writer.checkpoint written.checkpoint target middle now (take count first)
    (concat wholes ++ behind) writer written left tt c.write_known.result refl c.in_ok-write.ensures.checkpoint c.in_ok-write.ensures.rest
    c.write_known.ensures.target.rest c.requires.writer.room wrote (c.write_known.ensures.written wholes are full answered))

pub write-requires-2-clause-most : goal.write-requires-2-clause-most
write-requires-2-clause-most g c =
    subst (λ (n : ℕ). n ≤ 8388608) (sym (c.in_ok-write.ensures.written Content refl).1.1.1.1.0.block) c.requires.writer.most

pub write-requires-2-clause-room : goal.write-requires-2-clause-room
write-requires-2-clause-room g c = (c.in_ok-write.ensures.written Content refl).1.1.1.1.0.room

pub returns-in_err-write-2-clause-written : goal.returns-in_err-write-2-clause-written
returns-in_err-write-2-clause-written g c =
    let told = g.S.Shelf.told c.args.shelf.now in
    let source = repo_view c.args.source.now in
    let writer = c.args.self.now.contents in
    let written = c.write.new.self in
    let left = c.write-2.new.self in
    let target = target_state (g.D.Shelf.told c.args.depot.now) (g.D.Shelf.faults c.args.depot.now) c.args.store.now in
    let middle = target_state (g.D.Shelf.told c.write.new.depot) (g.D.Shelf.faults c.write.new.depot) c.write.new.store in
    let now = target_state (g.D.Shelf.told c.write-2.new.depot) (g.D.Shelf.faults c.write-2.new.depot) c.write-2.new.store in
    let refs = c.args.chunks.now in
    let one = get_or refs 0 none in
    let first = c.deref.result.now in
    let again = c.deref-2.result.now in
    let count = c.min-skip.result in
    let rest = take (length again - count) (drop count again) in
    let fault = c.in_err-write-2.field-0.0 in
    let comes : IfSome told (λ t. HoldsContent (told_files t) source.log source.keys one first) =
    subst (λ (b : List ℕ). IfSome told (λ t. HoldsContent (told_files t) source.log source.keys one b)) (sym c.deref.ensures.value)
    c.in_ok-content.ensures.content in
    err_is c.from_residual-in_err-write-2.result fault
    (λ (r : Result (Unit {0}) CarryFault). WritesChunks writer.checkpoint told source target now refs writer left r) c.from_residual-in_err-write-2.ensures.1
    (parts_wider {T = Unit {0}} writer.checkpoint told source target now (one ∷ []) (take (length refs - 1) (drop 1 refs)) refs writer left fault
    (first_and refs none c.requires.some)
    (chunks_of_bytes {T = Unit {0}} writer.checkpoint told source target now (one ∷ []) (first ∷ []) (take count first ++ rest) writer left (Err fault)
    (one_comes told source one first comes)
    (one_split count first ∙ ap (λ (b : List ℕ). take count first ++ b)
    (rest_of count first again (c.deref-2.ensures.value ∙ sym c.deref.ensures.value))) c.in_err-write-2.ensures.target
    (bytes_then {T = Unit {0}} {U = Unit {0}} writer.checkpoint writer.checkpoint written.checkpoint target middle now (take count first) rest writer written
    left tt (Err fault) refl c.in_ok-write.ensures.checkpoint c.in_ok-write.ensures.rest tt c.requires.writer.room (c.in_ok-write.ensures.written Content refl)
    (c.in_err-write-2.ensures.written Content refl))))

pub write_contents-requires-clause-writer : goal.write_contents-requires-clause-writer
write_contents-requires-clause-writer g c =
    let wrote = c.in_ok-write.ensures.written Content refl in
    let more = c.in_ok-write-2.ensures.written Content refl in record {
      most = subst (λ (n : ℕ). n ≤ 8388608) (sym (more.1.1.1.1.0.block ∙ wrote.1.1.1.1.0.block)) c.requires.writer.most;
      room = more.1.1.1.1.0.room;
      checkpoint = subst IsCheckpoint (sym (c.in_ok-write-2.ensures.checkpoint ∙ c.in_ok-write.ensures.checkpoint)) c.requires.writer.checkpoint;
    }

pub returns-clause-written : goal.returns-clause-written
returns-clause-written g c =
    let told = g.S.Shelf.told c.args.shelf.now in
    let later = g.S.Shelf.told c.bytes_behind.new.shelf in
    let source = repo_view c.args.source.now in
    let after = repo_view c.bytes_behind.new.source in
    let writer = c.args.self.now.contents in
    let written = c.write.new.self in
    let whole = c.write-2.new.self in
    let left = c.write_contents.new.self.contents in
    let target = target_state (g.D.Shelf.told c.args.depot.now) (g.D.Shelf.faults c.args.depot.now) c.args.store.now in
    let middle = target_state (g.D.Shelf.told c.write.new.depot) (g.D.Shelf.faults c.write.new.depot) c.write.new.store in
    let more = target_state (g.D.Shelf.told c.write-2.new.depot) (g.D.Shelf.faults c.write-2.new.depot) c.write-2.new.store in
    let now = target_state (g.D.Shelf.told c.write_contents.new.depot) (g.D.Shelf.faults c.write_contents.new.depot) c.write_contents.new.store in
    let refs = c.args.chunks.now in
    let one = get_or refs 0 none in
    let first = c.deref.result.now in
    let again = c.deref-2.result.now in
    let count = c.min-skip.result in
    let rest = take (length again - count) (drop count again) in
    let read = c.in_ok-content.ensures.source in
    let read_behind = c.in_ok-behind.ensures.source in
    let comes : IfSome told (λ t. HoldsContent (told_files t) source.log source.keys one first) =
    subst (λ (b : List ℕ). IfSome told (λ t. HoldsContent (told_files t) source.log source.keys one b)) (sym c.deref.ensures.value)
    c.in_ok-content.ensures.content in
    parts_then {U = Unit {0}} writer.checkpoint writer.checkpoint whole.checkpoint told later source after target more now (one ∷ [])
    (take (length refs - 1) (drop 1 refs)) refs writer whole left c.write_contents.result (first_and refs none c.requires.some)
    (read_behind.same ∙ read.same) (read_behind.kept ∙ read.kept) refl (c.in_ok-write-2.ensures.checkpoint ∙ c.in_ok-write.ensures.checkpoint)
    (rest_then target.store middle.store more.store c.in_ok-write.ensures.rest c.in_ok-write-2.ensures.rest) c.write_contents.ensures.both.target.rest
    c.requires.writer.room
    (chunks_of_bytes {T = Unit {0}} writer.checkpoint told source target more (one ∷ []) (first ∷ []) (take count first ++ rest) writer whole
    (Ok tt) (one_comes told source one first comes)
    (one_split count first ∙ ap (λ (b : List ℕ). take count first ++ b)
    (rest_of count first again (c.deref-2.ensures.value ∙ sym c.deref.ensures.value))) tt
    (bytes_then {T = Unit {0}} {U = Unit {0}} writer.checkpoint writer.checkpoint written.checkpoint target middle more (take count first) rest writer written
    whole tt (Ok tt) refl c.in_ok-write.ensures.checkpoint c.in_ok-write.ensures.rest c.in_ok-write-2.ensures.rest c.requires.writer.room
    (c.in_ok-write.ensures.written Content refl) (c.in_ok-write-2.ensures.written Content refl))) c.write_contents.ensures.written

pub returns-clause-refused : goal.returns-clause-refused
returns-clause-refused g c =
    let told = g.S.Shelf.told c.args.shelf.now in
    let later = g.S.Shelf.told c.bytes_behind.new.shelf in
    let source = repo_view c.args.source.now in
    let after = repo_view c.bytes_behind.new.source in
    let refs = c.args.chunks.now in
    let others = take (length refs - 1) (drop 1 refs) in
    let cutter = c.args.self.now.contents.cutter in
    let so = returns-clause-written g c in
    let pieces = contents_in so.0 in
    err_both {T = Unit {0}} (RefusesContents later after others)
    (λ fault. WhereSource told fault (λ there refusal. FillsChunks there source refs cutter refusal pieces)) (RefusesContents told source refs)
    c.write_contents.result (λ fault refused says. parts_refused told later source after refs others cutter pieces fault refused says)
    c.write_contents.ensures.refused so.1.1.1.1.0
