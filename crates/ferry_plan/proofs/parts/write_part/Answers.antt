use Rattle.std.proofs.Common.{◌≡◌, ◌-◌, ◌++◌, [], List, ℕ, Some, IfSome, length, take, drop, refl, sym, ◌∙◌, ap, subst}
use Rattle.std.proofs.lemmas.List.{append-nil, take-append-drop}
use Rattle.ferry_carry.proofs.PartsLemmas.{has_again, rest_all}
use Rattle.ferry_disk.specs.Device.{told_files}
use Rattle.ferry_item.specs.declared.item.ChunkRef.{ChunkRef}
use Rattle.ferry_plan.proofs.PartsLemmas.{err_map, none_come, ok_map, parts_refused, parts_taken}
use Rattle.ferry_plan.proofs.parts.write_part.Goals as goal
use Rattle.ferry_plan.specs.Parts.{TakesChunks}
use Rattle.ferry_repo.proofs.FaultLemmas.{gives_err}
use Rattle.ferry_repo.specs.Archives.{RefusesJoined}
use Rattle.ferry_repo.specs.Fault.{IsOfFiles}
use Rattle.ferry_repo.specs.Opening.{repo_view}
use Rattle.ferry_repo.specs.declared.fault.RepoFault.{RepoFault}

pub returns-in_err-write_contents-clause-refused : goal.returns-in_err-write_contents-clause-refused
returns-in_err-write_contents-clause-refused g c =
    let told = g.S.Shelf.told c.args.shelf.now in
    let source = repo_view c.args.source.now in
    let refs = c.args.chunks.now in
    let at = length refs - (c.args.shared.now.end - c.args.shared.now.place) in
    gives_err c.from_residual.result _ _ c.from_residual.ensures.1
    (λ fault is. subst (λ (f : RepoFault). IsOfFiles f → IfSome told (λ t. RefusesJoined (told_files t) source.log source.keys (Some refs) f)) (sym is)
    (λ of_files. parts_refused told told source source [] (take at refs) (drop at refs) refs [] c.in_err-write_contents.field-0.0 (take-append-drop at refs)
    refl refl (none_come told source) (c.in_err-write_contents.ensures.refused of_files)))

pub returns-clause-written : goal.returns-clause-written
returns-clause-written g c =
    let told = g.S.Shelf.told c.args.shelf.now in
    let later = g.S.Shelf.told c.write_contents.new.shelf in
    let source = repo_view c.args.source.now in
    let after = repo_view c.write_contents.new.source in
    let target = repo_view c.args.target.now in
    let refs = c.args.chunks.now in
    let at = length refs - (c.args.shared.now.end - c.args.shared.now.place) in
    let others = take (length refs - at) (drop at refs) in
    let middle = c.write_contents.new.known in
    let some = c.write_contents.new.pieces in
    let now = c.write_shared.new.known in
    let last = c.write_shared.new.pieces in
    let ok = c.in_ok-write_contents.ensures in
    ok_map (TakesChunks target later after others middle some now last) (TakesChunks target told source refs c.args.known.now c.args.pieces.now now last)
    c.write_shared.result
    (λ more. parts_taken target told later source after (take at refs) others refs c.args.known.now middle now c.args.pieces.now some last
    (ap (λ (cs : List ChunkRef). take at refs ++ cs) (rest_all at refs) ∙ take-append-drop at refs) ok.same ok.kept ok.written more)
    c.write_shared.ensures.written

pub returns-clause-refused : goal.returns-clause-refused
returns-clause-refused g c =
    let told = g.S.Shelf.told c.args.shelf.now in
    let later = g.S.Shelf.told c.write_contents.new.shelf in
    let source = repo_view c.args.source.now in
    let after = repo_view c.write_contents.new.source in
    let refs = c.args.chunks.now in
    let at = length refs - (c.args.shared.now.end - c.args.shared.now.place) in
    let others = take (length refs - at) (drop at refs) in
    let ok = c.in_ok-write_contents.ensures in
    err_map (λ (f : RepoFault). IsOfFiles f → IfSome later (λ t. RefusesJoined (told_files t) after.log after.keys (Some others) f))
    (λ (f : RepoFault). IsOfFiles f → IfSome told (λ t. RefusesJoined (told_files t) source.log source.keys (Some refs) f)) c.write_shared.result
    (λ f refused of_files. parts_refused told later source after (take at refs) others [] refs ok.written.1.1.contents f
    (append-nil (take at refs ++ others) ∙ (ap (λ (cs : List ChunkRef). take at refs ++ cs) (rest_all at refs) ∙ take-append-drop at refs)) ok.same ok.kept
    ok.written.1.1.come (refused of_files)) c.write_shared.ensures.refused
