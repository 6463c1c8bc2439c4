use Rattle.std.proofs.Common.{◌≡◌, ◌-◌, ◌++◌, List, Result, length, take, drop, refl, sym, ◌∙◌, ap, subst}
use Rattle.std.proofs.lemmas.List.{take-append-drop}
use Rattle.ferry_item.specs.declared.item.ChunkRef.{ChunkRef}
use Rattle.ferry_carry.proofs.PartsLemmas.{err_both, err_given, has_again, parts_refused, parts_then, parts_wider, rest_all}
use Rattle.ferry_carry.proofs.copy.Copy.write_part.Goals as goal
use Rattle.ferry_carry.specs.Filling.{FillsChunks, WhereSource}
use Rattle.ferry_carry.specs.Parts.{WritesChunks}
use Rattle.ferry_carry.specs.Refusals.{RefusesContents}
use Rattle.ferry_carry.specs.States.{target_state}
use Rattle.ferry_mac.specs.declared.keys.Keys.{Keys}
use Rattle.ferry_piece.proofs.WorkLemmas.{err_is}
use Rattle.ferry_piece.specs.Puts.{contents_in}
use Rattle.ferry_piece.specs.declared.fault.CarryFault.{CarryFault}
use Rattle.ferry_repo.specs.Opening.{repo_view}

pub returns-in_err-write_contents-clause-written : goal.returns-in_err-write_contents-clause-written
returns-in_err-write_contents-clause-written g c =
    let told = g.S.Shelf.told c.args.shelf.now in
    let source = repo_view c.args.source.now in
    let writer = c.args.self.now.contents in
    let left = c.write_contents.new.self.contents in
    let target = target_state (g.D.Shelf.told c.args.depot.now) (g.D.Shelf.faults c.args.depot.now) c.args.store.now in
    let now = target_state (g.D.Shelf.told c.write_contents.new.depot) (g.D.Shelf.faults c.write_contents.new.depot) c.write_contents.new.store in
    let refs = c.args.chunks.now in
    let shared = c.args.shared.now in
    let at = length refs - (shared.end - shared.place) in
    let fault = c.in_err-write_contents.field-0.0 in
    err_is c.from_residual.result fault
    (λ (r : Result (Unit {0}) CarryFault). WritesChunks writer.checkpoint told source target now refs writer left r) c.from_residual.ensures.1
    (parts_wider {T = Unit {0}} writer.checkpoint told source target now (take at refs) (drop at refs) refs writer left fault (take-append-drop at refs)
    c.in_err-write_contents.ensures.written)

pub returns-in_err-write_contents-clause-refused : goal.returns-in_err-write_contents-clause-refused
returns-in_err-write_contents-clause-refused g c =
    let told = g.S.Shelf.told c.args.shelf.now in
    let source = repo_view c.args.source.now in
    let refs = c.args.chunks.now in
    let shared = c.args.shared.now in
    let at = length refs - (shared.end - shared.place) in
    let cutter = c.args.self.now.contents.cutter in
    let so = returns-in_err-write_contents-clause-written g c in
    let fault = c.in_err-write_contents.field-0.0 in
    let pieces = contents_in so.0 in
    err_both {T = Unit {0}} (λ f. f ≡ fault) (λ f. WhereSource told f (λ there refusal. FillsChunks there source refs cutter refusal pieces))
    (RefusesContents told source refs) c.from_residual.result
    (λ f is says. parts_refused told told source source refs (take at refs) cutter pieces f
    (subst (RefusesContents told source (take at refs)) (sym is) c.in_err-write_contents.ensures.refused) says) (err_given c.from_residual.result fault
    c.from_residual.ensures.1) so.1.1.1.1.0

pub write_shared-requires-clause-shares : goal.write_shared-requires-clause-shares
write_shared-requires-clause-shares g c =
    let store = c.args.store.now in
    let refs = c.args.chunks.now in
    let shared = c.args.shared.now in
    let at = length refs - (shared.end - shared.place) in
    let both = c.in_ok-write_contents.ensures.both in
    has_again (g.S.Shelf.told c.args.shelf.now) (g.S.Shelf.told c.write_contents.new.shelf) (repo_view c.args.source.now)
    (repo_view c.write_contents.new.source) (repo_view store.repo).keys.id_key (repo_view c.write_contents.new.store.repo).keys.id_key
    c.args.self.now.contents.cutter.block c.write_contents.new.self.contents.cutter.block (drop at refs) (take (length refs - at) (drop at refs)) shared
    both.source.same both.source.kept (ap (λ (k : Keys). k.id_key) both.target.rest.keys)
    c.in_ok-write_contents.ensures.written.1.1.1.1.1.0.writes.block (rest_all at refs) c.requires.shares

pub returns-clause-written : goal.returns-clause-written
returns-clause-written g c =
    let told = g.S.Shelf.told c.args.shelf.now in
    let later = g.S.Shelf.told c.write_contents.new.shelf in
    let source = repo_view c.args.source.now in
    let after = repo_view c.write_contents.new.source in
    let writer = c.args.self.now.contents in
    let written = c.write_contents.new.self.contents in
    let left = c.write_shared.new.self.contents in
    let target = target_state (g.D.Shelf.told c.args.depot.now) (g.D.Shelf.faults c.args.depot.now) c.args.store.now in
    let middle = target_state (g.D.Shelf.told c.write_contents.new.depot) (g.D.Shelf.faults c.write_contents.new.depot) c.write_contents.new.store in
    let now = target_state (g.D.Shelf.told c.write_shared.new.depot) (g.D.Shelf.faults c.write_shared.new.depot) c.write_shared.new.store in
    let refs = c.args.chunks.now in
    let shared = c.args.shared.now in
    let at = length refs - (shared.end - shared.place) in
    let both = c.in_ok-write_contents.ensures.both in
    parts_then {U = Unit {0}} writer.checkpoint writer.checkpoint written.checkpoint told later source after target middle now (take at refs)
    (take (length refs - at) (drop at refs)) refs writer written left c.write_shared.result
    (ap (λ (cs : List ChunkRef). take at refs ++ cs) (rest_all at refs) ∙ take-append-drop at refs) both.source.same both.source.kept refl
    c.in_ok-write_contents.ensures.checkpoint both.target.rest c.write_shared.ensures.both.target.rest c.requires.writer.room
    c.in_ok-write_contents.ensures.written c.write_shared.ensures.written

pub returns-clause-refused : goal.returns-clause-refused
returns-clause-refused g c =
    let told = g.S.Shelf.told c.args.shelf.now in
    let later = g.S.Shelf.told c.write_contents.new.shelf in
    let source = repo_view c.args.source.now in
    let after = repo_view c.write_contents.new.source in
    let refs = c.args.chunks.now in
    let shared = c.args.shared.now in
    let at = length refs - (shared.end - shared.place) in
    let others = take (length refs - at) (drop at refs) in
    let cutter = c.args.self.now.contents.cutter in
    let so = returns-clause-written g c in
    let pieces = contents_in so.0 in
    err_both {T = Unit {0}} (RefusesContents later after others)
    (λ fault. WhereSource told fault (λ there refusal. FillsChunks there source refs cutter refusal pieces)) (RefusesContents told source refs)
    c.write_shared.result (λ fault refused says. parts_refused told later source after refs others cutter pieces fault refused says)
    c.write_shared.ensures.refused so.1.1.1.1.0
