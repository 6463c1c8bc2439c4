use Rattle.std.proofs.Common.{◌≡◌, ◌≤◌, ◌<◌, ◌-◌, ◌++◌, [], List, ℕ, Some, Option, IfErr, IfSome, length, take, drop, get_or, refl, sym, ◌∙◌, ap, subst}
use Rattle.std.proofs.Common.{arith}
use Rattle.std.proofs.lemmas.List.{append-nil, take-append-drop}
use Rattle.ferry_carry.proofs.CopyLemmas.{nothing_written}
use Rattle.ferry_carry.proofs.PartsLemmas.{has_again, has_shared, part_of, part_to, rest_all, shares_at}
use Rattle.ferry_disk.specs.Device.{Told, told_files}
use Rattle.ferry_item.specs.declared.item.ChunkRef.{ChunkRef}
use Rattle.ferry_mac.specs.declared.keys.Keys.{Keys}
use Rattle.ferry_piece.specs.Puts.{Content}
use Rattle.ferry_plan.proofs.PartsLemmas.{err_map, ok_map, parts_refused, parts_taken}
use Rattle.ferry_plan.proofs.TallyLemmas.{takes_none}
use Rattle.ferry_plan.proofs.parts.write_parts.Goals as goal
use Rattle.ferry_plan.specs.Parts.{TakesChunks}
use Rattle.ferry_repo.proofs.FaultLemmas.{gives_err}
use Rattle.ferry_repo.specs.Archives.{RefusesJoined}
use Rattle.ferry_repo.specs.Fault.{IsOfFiles}
use Rattle.ferry_repo.specs.Opening.{FitsRepo, cached_in, repo_view}
use Rattle.ferry_repo.specs.Shared.{SharesPieces, chunks_from}
use Rattle.ferry_repo.specs.declared.fault.RepoFault.{RepoFault}
use Rattle.ferry_repo.specs.declared.shared.SharedPieces.{SharedPieces}

pub loop-number-init : goal.loop-number-init
loop-number-init g c =
    let target = repo_view c.args.target.now in
    let pieces = c.args.pieces.now in
    record {
      within = omega arith;
      room = c.requires.room;
      block = refl;
      source_fits = c.requires.source_fits;
      repo = refl;
      alike = refl;
      faults = refl;
      written = (
        [],
        (
          takes_none Content target.keys target.log c.args.known.now pieces pieces refl refl,
          nothing_written (g.S.Shelf.told c.args.shelf.now) (repo_view c.args.source.now) target.keys pieces.cutter pieces.chunks.items c.requires.room,
        ),
      );
    }

pub write_part-requires-clause-shares : goal.write_part-requires-clause-shares
write_part-requires-clause-shares g c =
    let told = g.S.Shelf.told c.args.shelf.now in
    let here = g.S.Shelf.told c.loop-number.shelf in
    let source = repo_view c.args.source.now in
    let after = repo_view c.loop-number.source in
    let keys = (repo_view c.args.target.now).keys in
    let chunks = c.args.chunks.now in
    let shared = c.index-shared.result.now in
    let so = c.loop-number.invariant in
    let block = c.block.result in
    let now = c.loop-number.pieces.cutter.block in
    let lt : c.loop-number.number < length c.shared-parts.result.items =
    omega (arith, c.loop-number-test.true, c.len-number-end.ensures, c.shared-parts.result.ok) in
    let behind = c.is_behind.ensures c.if-not-is_behind.false in
    let own = shares_at (λ (s : SharedPieces). (t : Option Told) → IfSome t (λ u. FitsRepo (told_files u) source (cached_in c.args.source.now))
    → SharesPieces t source c.keys.result.now.id_key block chunks s) c.shared-parts.result.items c.loop-number.number shared c.shared-parts.ensures.shared lt
    c.index-shared.ensures told c.requires.source_fits in
    has_again here here after after keys.id_key keys.id_key now now (chunks_from chunks shared.place shared.end) _ shared refl refl refl refl
    (part_of c.loop-number.done shared.place shared.end chunks behind.0 (omega (arith, behind.1.0)) behind.1.1)
    (has_shared told here source after c.keys.result.now.id_key keys.id_key block now chunks shared so.alike so.repo
    (ap (λ (k : Keys). k.id_key) (sym c.keys.ensures.keys)) (so.block ∙ sym c.block.ensures.block) own)

pub returns-in_err-write_part-clause-refused : goal.returns-in_err-write_part-clause-refused
returns-in_err-write_part-clause-refused g c =
    let told = g.S.Shelf.told c.args.shelf.now in
    let later = g.S.Shelf.told c.loop-number.shelf in
    let source = repo_view c.args.source.now in
    let after = repo_view c.loop-number.source in
    let refs = c.args.chunks.now in
    let done = c.loop-number.done in
    let end = c.index-shared.result.now.end in
    let others = take (end - done) (drop done refs) in
    let so = c.loop-number.invariant in
    let behind = c.is_behind.ensures c.if-not-is_behind.false in
    gives_err c.from_residual.result _ _ c.from_residual.ensures.1
    (λ fault is. subst (λ (f : RepoFault). IsOfFiles f → IfSome told (λ t. RefusesJoined (told_files t) source.log source.keys (Some refs) f)) (sym is)
    (λ of_files. parts_refused told later source after (take done refs) others (drop end refs) refs so.written.1.1.contents c.in_err-write_part.field-0.0
    (ap (λ (cs : List ChunkRef). cs ++ drop end refs) (part_to done end refs (omega (arith, behind.0, behind.1.0))) ∙ take-append-drop end refs) so.alike
    so.repo so.written.1.1.come (c.in_err-write_part.ensures.refused of_files)))

pub loop-number-preserved : goal.loop-number-preserved
loop-number-preserved g c =
    let told = g.S.Shelf.told c.args.shelf.now in
    let later = g.S.Shelf.told c.loop-number.shelf in
    let source = repo_view c.args.source.now in
    let after = repo_view c.loop-number.source in
    let target = repo_view c.args.target.now in
    let refs = c.args.chunks.now in
    let done = c.loop-number.done in
    let end = c.index-shared.result.now.end in
    let so = c.loop-number.invariant in
    let behind = c.is_behind.ensures c.if-not-is_behind.false in
    let ok = c.in_ok-write_part.ensures in
    record {
      within = behind.1.1;
      room = ok.written.1.1.writes.room;
      block = ok.written.1.1.writes.block ∙ so.block;
      source_fits = ok.source_fits;
      repo = ok.kept ∙ so.repo;
      alike = ok.same ∙ so.alike;
      faults = ok.cause ∙ so.faults;
      written = parts_taken target told later source after (take done refs) (take (end - done) (drop done refs)) (take end refs) c.args.known.now
          c.loop-number.known c.write_part.new.known c.args.pieces.now c.loop-number.pieces c.write_part.new.pieces
          (part_to done end refs (omega (arith, behind.0, behind.1.0))) so.alike so.repo so.written ok.written;
    }

pub returns-clause-written : goal.returns-clause-written
returns-clause-written g c =
    let told = g.S.Shelf.told c.args.shelf.now in
    let later = g.S.Shelf.told c.loop-number.shelf in
    let source = repo_view c.args.source.now in
    let after = repo_view c.loop-number.source in
    let target = repo_view c.args.target.now in
    let refs = c.args.chunks.now in
    let done = c.loop-number.done in
    let others = take (length refs - done) (drop done refs) in
    let so = c.loop-number.invariant in
    let now = c.write_contents.new.known in
    let last = c.write_contents.new.pieces in
    ok_map (TakesChunks target later after others c.loop-number.known c.loop-number.pieces now last)
    (TakesChunks target told source refs c.args.known.now c.args.pieces.now now last) c.write_contents.result
    (λ more. parts_taken target told later source after (take done refs) others refs c.args.known.now c.loop-number.known now c.args.pieces.now
    c.loop-number.pieces last (ap (λ (cs : List ChunkRef). take done refs ++ cs) (rest_all done refs) ∙ take-append-drop done refs) so.alike so.repo so.written
    more) c.write_contents.ensures.written

pub returns-clause-refused : goal.returns-clause-refused
returns-clause-refused g c =
    let told = g.S.Shelf.told c.args.shelf.now in
    let later = g.S.Shelf.told c.loop-number.shelf in
    let source = repo_view c.args.source.now in
    let after = repo_view c.loop-number.source in
    let refs = c.args.chunks.now in
    let done = c.loop-number.done in
    let others = take (length refs - done) (drop done refs) in
    let so = c.loop-number.invariant in
    err_map (λ (f : RepoFault). IsOfFiles f → IfSome later (λ t. RefusesJoined (told_files t) after.log after.keys (Some others) f))
    (λ (f : RepoFault). IsOfFiles f → IfSome told (λ t. RefusesJoined (told_files t) source.log source.keys (Some refs) f)) c.write_contents.result
    (λ f refused of_files. parts_refused told later source after (take done refs) others [] refs so.written.1.1.contents f
    (append-nil (take done refs ++ others) ∙ (ap (λ (cs : List ChunkRef). take done refs ++ cs) (rest_all done refs) ∙ take-append-drop done refs)) so.alike
    so.repo so.written.1.1.come (refused of_files)) c.write_contents.ensures.refused
