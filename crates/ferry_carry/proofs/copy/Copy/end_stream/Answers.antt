use Rattle.std.proofs.Common.{ℕ, inl, inr, List, [], ◌++◌, Result, Err, IfErr, OnOk, Vec, Global, refl, sym, ◌∙◌, subst}
use Rattle.std.proofs.lemmas.List.{append-nil}
use Rattle.ferry_carry.proofs.LeftLemmas.{lefts_then, target_leaves}
use Rattle.ferry_carry.proofs.NamingLemmas.{RecordIs, on_any, record_as}
use Rattle.ferry_carry.proofs.TagLemmas.{tags_none}
use Rattle.ferry_piece.proofs.FewLemmas.{memory_unused}
use Rattle.ferry_piece.proofs.WorkLemmas.{err_is, gathered_err, gathered_nothing, gathered_then}
use Rattle.ferry_carry.proofs.copy.Copy.end_stream.Goals as goal
use Rattle.ferry_piece.specs.Adding.{AddsOn}
use Rattle.ferry_piece.specs.Gather.{chunks_of}
use Rattle.ferry_carry.specs.Naming.{BeginsRecord, PutsRecord, copied_in}
use Rattle.ferry_carry.specs.Refusals.{Leaves}
use Rattle.ferry_piece.specs.Piece.{CountsOn}
use Rattle.ferry_piece.specs.Puts.{Addition, ArePieces, Stream}
use Rattle.ferry_piece.specs.declared.fault.CarryFault.{CarryFault}
use Rattle.ferry_piece.specs.declared.fault.CarryFault.TheVariants.{Memory}
use Rattle.ferry_item.specs.declared.item.ChunkRef.{ChunkRef}
use Rattle.ferry_manifest.specs.Record.Text.{ArchiveText, archive_view}
use Rattle.ferry_rechunk.specs.Cut.{cut}
use Rattle.ferry_repo.specs.Opening.{repo_view}

pub returns-in_err-pieces-clause-ended : goal.returns-in_err-pieces-clause-ended
returns-in_err-pieces-clause-ended g c =
    let store = c.args.store.now in
    let now = c.finish.new.store in
    let keys = (repo_view store.repo).keys in
    let stream = c.args.self.now.stream in
    let most = stream.checkpoint in
    let left = cut stream.cutter.block stream.cutter.piece in
    let archive = copied_in (archive_view c.args.self.now.archive) c.args.self.now.block (stream.chunks.items ++ chunks_of keys left) in
    let a = g.D.Shelf.told c.args.depot.now in
    let b = g.D.Shelf.told c.finish.new.depot in
    let n = g.D.Shelf.faults c.args.depot.now in
    let m = g.D.Shelf.faults c.finish.new.depot in
    let fault = c.in_err-pieces.field-0.0 in
    let finished = c.in_err-pieces.ensures.works Stream refl in
    let last = finished.0 in (
      last,
      (
        [],
        err_is c.from_residual.result fault
            (λ (r : Result (List ℕ) CarryFault). AddsOn most store (last ++ []) now a b n m r
            × (ArePieces Stream left last × (BeginsRecord keys archive []
            × (PutsRecord keys archive [] (g.E.Entropy.drawn c.args.entropy.now) (g.E.Entropy.drawn c.args.entropy.now) r × OnOk r (CountsOn Stream
            stream last c.finish.new.self)))))
            c.from_residual.ensures.1 (
              subst (λ (l : List Addition). AddsOn {T = List ℕ} most store l now a b n m (Err fault)) (sym (append-nil last))
                  (gathered_err {T = Vec ChunkRef Global} {U = List ℕ} most store now last a b n m fault finished.1.0),
              (finished.1.1.0, (inl refl, (inr (tags_none keys [] _ _ refl refl), tt))),
            ),
      ),
    )

pub returns-in_err-copied_archive-clause-ended : goal.returns-in_err-copied_archive-clause-ended
returns-in_err-copied_archive-clause-ended g c =
    let store = c.args.store.now in
    let middle = c.finish.new.store in
    let keys = (repo_view store.repo).keys in
    let stream = c.args.self.now.stream in
    let most = stream.checkpoint in
    let left = cut stream.cutter.block stream.cutter.piece in
    let archive = copied_in (archive_view c.args.self.now.archive) c.args.self.now.block (stream.chunks.items ++ chunks_of keys left) in
    let a = g.D.Shelf.told c.args.depot.now in
    let b = g.D.Shelf.told c.finish.new.depot in
    let n = g.D.Shelf.faults c.args.depot.now in
    let m = g.D.Shelf.faults c.finish.new.depot in
    let finished = c.in_ok-pieces.ensures.works Stream refl in
    let last = finished.0 in (
      last,
      (
        [],
        err_is c.from_residual-in_err-copied_archive.result Memory
            (λ (r : Result (List ℕ) CarryFault). AddsOn most store (last ++ []) middle a b n m r
            × (ArePieces Stream left last × (BeginsRecord keys archive []
            × (PutsRecord keys archive [] (g.E.Entropy.drawn c.args.entropy.now) (g.E.Entropy.drawn c.args.entropy.now) r × OnOk r (CountsOn Stream
            stream last c.finish.new.self)))))
            c.from_residual-in_err-copied_archive.ensures.1 (
              gathered_then {T = Vec ChunkRef Global} {U = List ℕ} most store middle middle last [] a b b n m m c.in_ok-pieces.pieces (Err Memory)
                  c.in_ok-pieces.ensures.rest tt finished.1.0 (gathered_nothing {T = List ℕ} most middle b m Memory refl tt memory_unused),
              (finished.1.1.0, (inl refl, (inl tt, tt))),
            ),
      ),
    )

pub returns-clause-ended : goal.returns-clause-ended
returns-clause-ended g c =
    let store = c.args.store.now in
    let middle = c.finish.new.store in
    let now = c.put_record.new.store in
    let keys = (repo_view store.repo).keys in
    let other = (repo_view middle.repo).keys in
    let stream = c.args.self.now.stream in
    let most = stream.checkpoint in
    let left = cut stream.cutter.block stream.cutter.piece in
    let finished = c.in_ok-pieces.ensures.works Stream refl in
    let put = c.put_record.ensures.put in
    let before = g.E.Entropy.drawn c.args.entropy.now in
    let after = g.E.Entropy.drawn c.put_record.new.entropy in
    let said = record_as c.put_record.result keys other (archive_view c.args.self.now.archive) c.args.self.now.block
    (stream.chunks.items ++ chunks_of keys left) c.deref.result.now put.0 before after c.in_ok-pieces.ensures.rest.keys
    (c.deref.ensures.value ∙ c.in_ok-pieces.ensures.chunks)
    (subst (λ (archive : ArchiveText). RecordIs other archive put.0 before after c.put_record.result) c.in_ok-copied_archive.ensures.archive put.1.1) in (
      finished.0,
      (
        put.0,
        (
          gathered_then {T = Vec ChunkRef Global} {U = List ℕ} most store middle now finished.0 put.0 (g.D.Shelf.told c.args.depot.now)
              (g.D.Shelf.told c.finish.new.depot) (g.D.Shelf.told c.put_record.new.depot) (g.D.Shelf.faults c.args.depot.now)
              (g.D.Shelf.faults c.finish.new.depot) (g.D.Shelf.faults c.put_record.new.depot) c.in_ok-pieces.pieces c.put_record.result
              c.in_ok-pieces.ensures.rest c.put_record.ensures.target.rest finished.1.0 (put.1.0 most c.requires.stream.checkpoint
              c.in_ok-pieces.ensures.pending),
          (finished.1.1.0, (said.0, (said.1, on_any c.put_record.result finished.1.1.1))),
        ),
      ),
    )

pub returns-in_err-pieces-clause-left : goal.returns-in_err-pieces-clause-left
returns-in_err-pieces-clause-left g c =
    let store = c.args.store.now in
    let now = c.finish.new.store in
    let b = g.D.Shelf.told c.finish.new.depot in
    let most = c.args.self.now.stream.checkpoint in
    let fault = c.in_err-pieces.field-0.0 in
    err_is c.from_residual.result fault (λ (r : Result (List ℕ) CarryFault). IfErr r (Leaves most store b now)) c.from_residual.ensures.1
    (target_leaves most store b now fault c.in_err-pieces.ensures.target)

pub returns-in_err-copied_archive-clause-left : goal.returns-in_err-copied_archive-clause-left
returns-in_err-copied_archive-clause-left g c =
    let store = c.args.store.now in
    let now = c.finish.new.store in
    let b = g.D.Shelf.told c.finish.new.depot in
    let most = c.args.self.now.stream.checkpoint in
    err_is c.from_residual-in_err-copied_archive.result Memory (λ (r : Result (List ℕ) CarryFault). IfErr r (Leaves most store b now))
    c.from_residual-in_err-copied_archive.ensures.1 (target_leaves most store b now Memory refl)

pub returns-clause-left : goal.returns-clause-left
returns-clause-left g c =
    let most = c.args.self.now.stream.checkpoint in
    lefts_then {T = List ℕ} most most c.args.store.now c.finish.new.store (g.D.Shelf.told c.put_record.new.depot) c.put_record.new.store
    c.put_record.result refl c.in_ok-pieces.ensures.rest (c.put_record.ensures.left most c.in_ok-pieces.ensures.pending)
