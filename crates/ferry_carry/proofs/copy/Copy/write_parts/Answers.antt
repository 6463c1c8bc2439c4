use Rattle.std.proofs.Common.{◌≡◌, ◌≤◌, ◌<◌, ◌-◌, ◌++◌, [], List, ℕ, Result, Ok, Err, Option, length, take, drop, refl, sym, ◌∙◌, ap, subst, arith}
use Rattle.std.proofs.lemmas.List.{take-append-drop}
use Rattle.ferry_disk.specs.Device.{Told}
use Rattle.ferry_item.specs.declared.item.ChunkRef.{ChunkRef}
use Rattle.ferry_mac.specs.declared.keys.Keys.{Keys}
use Rattle.ferry_repo.specs.declared.shared.SharedPieces.{SharedPieces}
use Rattle.ferry_repo.specs.Shared.{SharesPieces, chunks_from}
use Rattle.ferry_carry.proofs.CopyLemmas.{contents_begun, nothing_written}
use Rattle.ferry_carry.proofs.PartsLemmas.{err_both, err_given, has_again, has_shared, part_of, part_to, parts_refused, parts_then, parts_wider}
use Rattle.ferry_carry.proofs.PartsLemmas.{rest_all, shares_at}
use Rattle.ferry_carry.proofs.copy.Copy.write_parts.Goals as goal
use Rattle.ferry_carry.specs.Calls.{FitsShelf}
use Rattle.ferry_carry.specs.Filling.{FillsChunks, WhereSource}
use Rattle.ferry_carry.specs.Parts.{WritesChunks}
use Rattle.ferry_carry.specs.Refusals.{RefusesContents}
use Rattle.ferry_carry.specs.States.{target_state}
use Rattle.ferry_carry.specs.declared.copy.Copy.{Copy}
use Rattle.ferry_piece.proofs.GatherLemmas.{rest_here, rest_then}
use Rattle.ferry_piece.proofs.PieceLemmas.{counts_none}
use Rattle.ferry_piece.proofs.WorkLemmas.{err_is, gathered_none}
use Rattle.ferry_piece.specs.Puts.{Content, contents_in}
use Rattle.ferry_piece.specs.declared.fault.CarryFault.{CarryFault}
use Rattle.ferry_repo.specs.Opening.{repo_view}

pub loop-number-init : goal.loop-number-init
loop-number-init g c =
    let store = c.args.store.now in
    let writer = c.args.self.now.contents in
    let told = g.S.Shelf.told c.args.shelf.now in
    let source = repo_view c.args.source.now in
    record {
      within = omega arith;
      room = c.requires.writer.room;
      block = refl;
      checkpoint = refl;
      others = refl;
      pending = c.requires.both.target.pending;
      unspent = c.requires.both.target.unspent;
      fits = c.requires.both.target.fits;
      rest = rest_here store;
      source_fits = c.requires.both.source;
      repo = refl;
      alike = refl;
      faults = refl;
      written = (
        [],
        (
          gathered_none {T = Unit {0}} writer.checkpoint store (g.D.Shelf.told c.args.depot.now) (g.D.Shelf.faults c.args.depot.now) tt,
          (
            tt,
            (
              contents_begun told source [] writer.cutter,
              (
                tt,
                (
                  nothing_written told source (repo_view store.repo).keys writer.cutter writer.chunks.items c.requires.writer.room,
                  counts_none Content writer,
                ),
              ),
            ),
          ),
        ),
      );
    }

pub write_part-requires-clause-shares : goal.write_part-requires-clause-shares
write_part-requires-clause-shares g c =
    let told = g.S.Shelf.told c.args.shelf.now in
    let here = g.S.Shelf.told c.loop-number.shelf in
    let source = repo_view c.args.source.now in
    let after = repo_view c.loop-number.source in
    let keys = (repo_view c.args.store.now.repo).keys in
    let keys_now = (repo_view c.loop-number.store.repo).keys in
    let chunks = c.args.chunks.now in
    let shared = c.index-shared.result.now in
    let done = c.loop-number.done in
    let so = c.loop-number.invariant in
    let lt : c.loop-number.number < length c.shared-parts.result.items =
    omega (arith, c.loop-number-test.true, c.len-number-end.ensures, c.shared-parts.result.ok) in
    let behind = c.is_behind.ensures c.if-not-is_behind.false in
    let own = shares_at (λ (s : SharedPieces). (t : Option Told) → FitsShelf t c.args.source.now
    → SharesPieces t source c.keys.result.now.id_key c.args.self.now.block chunks s) c.shared-parts.result.items c.loop-number.number shared
    c.shared-parts.ensures.shared lt c.index-shared.ensures told c.requires.both.source in
    has_again here here after after keys_now.id_key keys_now.id_key c.loop-number.self.contents.cutter.block c.loop-number.self.contents.cutter.block
    (chunks_from chunks shared.place shared.end) _ shared refl refl refl refl
    (part_of done shared.place shared.end chunks behind.0 (omega (arith, behind.1.0)) behind.1.1)
    (has_shared told here source after c.keys.result.now.id_key keys_now.id_key c.args.self.now.block c.loop-number.self.contents.cutter.block chunks shared
    so.alike so.repo (ap (λ (k : Keys). k.id_key) (so.rest.keys ∙ sym c.keys.ensures.keys)) (so.block ∙ c.requires.block) own)

pub returns-in_err-write_part-clause-written : goal.returns-in_err-write_part-clause-written
returns-in_err-write_part-clause-written g c =
    let told = g.S.Shelf.told c.args.shelf.now in
    let later = g.S.Shelf.told c.loop-number.shelf in
    let source = repo_view c.args.source.now in
    let after = repo_view c.loop-number.source in
    let writer = c.args.self.now.contents in
    let written = c.loop-number.self.contents in
    let left = c.write_part.new.self.contents in
    let target = target_state (g.D.Shelf.told c.args.depot.now) (g.D.Shelf.faults c.args.depot.now) c.args.store.now in
    let middle = target_state (g.D.Shelf.told c.loop-number.depot) (g.D.Shelf.faults c.loop-number.depot) c.loop-number.store in
    let now = target_state (g.D.Shelf.told c.write_part.new.depot) (g.D.Shelf.faults c.write_part.new.depot) c.write_part.new.store in
    let refs = c.args.chunks.now in
    let done = c.loop-number.done in
    let end = c.index-shared.result.now.end in
    let so = c.loop-number.invariant in
    let behind = c.is_behind.ensures c.if-not-is_behind.false in
    let fault = c.in_err-write_part.field-0.0 in
    err_is c.from_residual.result fault
    (λ (r : Result (Unit {0}) CarryFault). WritesChunks writer.checkpoint told source target now refs writer left r) c.from_residual.ensures.1
    (parts_wider {T = Unit {0}} writer.checkpoint told source target now (take end refs) (drop end refs) refs writer left fault (take-append-drop end refs)
    (parts_then {U = Unit {0}} writer.checkpoint writer.checkpoint written.checkpoint told later source after target middle now (take done refs)
    (take (end - done) (drop done refs)) (take end refs) writer written left (Err fault) (part_to done end refs (omega (arith, behind.0, behind.1.0)))
    so.alike so.repo refl so.checkpoint so.rest tt c.requires.writer.room so.written c.in_err-write_part.ensures.written))

pub returns-in_err-write_part-clause-refused : goal.returns-in_err-write_part-clause-refused
returns-in_err-write_part-clause-refused g c =
    let told = g.S.Shelf.told c.args.shelf.now in
    let later = g.S.Shelf.told c.loop-number.shelf in
    let source = repo_view c.args.source.now in
    let after = repo_view c.loop-number.source in
    let refs = c.args.chunks.now in
    let others = take (c.index-shared.result.now.end - c.loop-number.done) (drop c.loop-number.done refs) in
    let cutter = c.args.self.now.contents.cutter in
    let so = returns-in_err-write_part-clause-written g c in
    let fault = c.in_err-write_part.field-0.0 in
    let pieces = contents_in so.0 in
    err_both {T = Unit {0}} (λ f. f ≡ fault) (λ f. WhereSource told f (λ there refusal. FillsChunks there source refs cutter refusal pieces))
    (RefusesContents told source refs) c.from_residual.result
    (λ f is says. parts_refused told later source after refs others cutter pieces f
    (subst (RefusesContents later after others) (sym is) c.in_err-write_part.ensures.refused) says) (err_given c.from_residual.result fault
    c.from_residual.ensures.1) so.1.1.1.1.0

pub loop-number-preserved : goal.loop-number-preserved
loop-number-preserved g c =
    let told = g.S.Shelf.told c.args.shelf.now in
    let later = g.S.Shelf.told c.loop-number.shelf in
    let source = repo_view c.args.source.now in
    let after = repo_view c.loop-number.source in
    let writer = c.args.self.now.contents in
    let written = c.loop-number.self.contents in
    let left = c.write_part.new.self.contents in
    let store = c.args.store.now in
    let target = target_state (g.D.Shelf.told c.args.depot.now) (g.D.Shelf.faults c.args.depot.now) store in
    let middle = target_state (g.D.Shelf.told c.loop-number.depot) (g.D.Shelf.faults c.loop-number.depot) c.loop-number.store in
    let now = target_state (g.D.Shelf.told c.write_part.new.depot) (g.D.Shelf.faults c.write_part.new.depot) c.write_part.new.store in
    let refs = c.args.chunks.now in
    let done = c.loop-number.done in
    let end = c.index-shared.result.now.end in
    let so = c.loop-number.invariant in
    let behind = c.is_behind.ensures c.if-not-is_behind.false in
    let both = c.in_ok-write_part.ensures.both in
    let wrote = c.in_ok-write_part.ensures.written in
    record {
      within = behind.1.1;
      room = wrote.1.1.1.1.1.0.writes.room;
      block = wrote.1.1.1.1.1.0.writes.block ∙ so.block;
      checkpoint = c.in_ok-write_part.ensures.checkpoint ∙ so.checkpoint;
      others = c.in_ok-write_part.ensures.others ∙ ap (λ (was : Copy). record was { contents = left }) so.others;
      pending = subst (λ (count : ℕ). now.store.pending ≤ count) so.checkpoint both.target.pending;
      unspent = both.target.unspent;
      fits = both.target.fits;
      rest = rest_then store middle.store now.store so.rest both.target.rest;
      source_fits = both.source.fits;
      repo = both.source.kept ∙ so.repo;
      alike = both.source.same ∙ so.alike;
      faults = both.source.cause ∙ so.faults;
      written = parts_then {U = Unit {0}} writer.checkpoint writer.checkpoint written.checkpoint told later source after target middle now (take done refs)
          (take (end - done) (drop done refs)) (take end refs) writer written left (Ok tt) (part_to done end refs (omega (arith, behind.0, behind.1.0)))
          so.alike so.repo refl so.checkpoint so.rest both.target.rest c.requires.writer.room so.written wrote;
    }

pub returns-clause-written : goal.returns-clause-written
returns-clause-written g c =
    let told = g.S.Shelf.told c.args.shelf.now in
    let later = g.S.Shelf.told c.loop-number.shelf in
    let source = repo_view c.args.source.now in
    let after = repo_view c.loop-number.source in
    let writer = c.args.self.now.contents in
    let written = c.loop-number.self.contents in
    let left = c.write_contents.new.self.contents in
    let target = target_state (g.D.Shelf.told c.args.depot.now) (g.D.Shelf.faults c.args.depot.now) c.args.store.now in
    let middle = target_state (g.D.Shelf.told c.loop-number.depot) (g.D.Shelf.faults c.loop-number.depot) c.loop-number.store in
    let now = target_state (g.D.Shelf.told c.write_contents.new.depot) (g.D.Shelf.faults c.write_contents.new.depot) c.write_contents.new.store in
    let refs = c.args.chunks.now in
    let done = c.loop-number.done in
    let so = c.loop-number.invariant in
    parts_then {U = Unit {0}} writer.checkpoint writer.checkpoint written.checkpoint told later source after target middle now (take done refs)
    (take (length refs - done) (drop done refs)) refs writer written left c.write_contents.result
    (ap (λ (cs : List ChunkRef). take done refs ++ cs) (rest_all done refs) ∙ take-append-drop done refs) so.alike so.repo refl so.checkpoint so.rest
    c.write_contents.ensures.both.target.rest c.requires.writer.room so.written c.write_contents.ensures.written

pub returns-clause-refused : goal.returns-clause-refused
returns-clause-refused g c =
    let told = g.S.Shelf.told c.args.shelf.now in
    let later = g.S.Shelf.told c.loop-number.shelf in
    let source = repo_view c.args.source.now in
    let after = repo_view c.loop-number.source in
    let refs = c.args.chunks.now in
    let others = take (length refs - c.loop-number.done) (drop c.loop-number.done refs) in
    let cutter = c.args.self.now.contents.cutter in
    let so = returns-clause-written g c in
    let pieces = contents_in so.0 in
    err_both {T = Unit {0}} (RefusesContents later after others)
    (λ fault. WhereSource told fault (λ there refusal. FillsChunks there source refs cutter refusal pieces)) (RefusesContents told source refs)
    c.write_contents.result (λ fault refused says. parts_refused told later source after refs others cutter pieces fault refused says)
    c.write_contents.ensures.refused so.1.1.1.1.0
