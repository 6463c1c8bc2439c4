use Rattle.std.proofs.Common.{◌≡◌, ◌≤◌, ◌<◌, ◌-◌, ◌++◌, [], ◌∷◌, List, ℕ, Some, None, IfErr, IfSome, All}
use Rattle.std.proofs.Common.{length, min, take, drop, get_or, refl, sym, ◌∙◌, ap, subst, arith}
use Rattle.std.proofs.lemmas.List.{append-nil, length-drop, take_all}
use Rattle.std.specs.List.{AllByRecursion, concat}
use Rattle.ferry_carry.proofs.KnownLemmas.{ids_hold, pieces_named}
use Rattle.ferry_carry.proofs.PartsLemmas.{first_and, last_there, one_comes, one_split, rest_of, shared_bytes, stands_at}
use Rattle.ferry_carry.specs.Parts.{StandsBehind}
use Rattle.ferry_blob.specs.Blob.{content_id}
use Rattle.ferry_rechunk.specs.Cutting.{Cutting}
use Rattle.ferry_compare.proofs.StepLemmas.{at_first}
use Rattle.ferry_disk.specs.Device.{told_files}
use Rattle.ferry_item.specs.declared.item.ChunkRef.{ChunkRef}
use Rattle.ferry_piece.proofs.PieceLemmas.{none_there}
use Rattle.ferry_piece.specs.Gather.{chunks_of}
use Rattle.ferry_piece.specs.Puts.{Content}
use Rattle.ferry_plan.proofs.PartsLemmas.{bytes_of, bytes_taken, chunks_taken, err_map, held_passed, none_in_hand, ok_map, parts_refused, parts_taken}
use Rattle.ferry_plan.proofs.PartsLemmas.{stands_of}
use Rattle.ferry_plan.proofs.parts.write_shared.Goals as goal
use Rattle.ferry_plan.specs.Parts.{TakesChunks}
use Rattle.ferry_plan.specs.Tally.{IsHeld}
use Rattle.ferry_repo.proofs.FaultLemmas.{gives_err}
use Rattle.ferry_repo.proofs.SharedLemmas.{all_behind}
use Rattle.ferry_repo.specs.Archives.{HoldsContent, RefusesContent, RefusesJoined}
use Rattle.ferry_repo.specs.Fault.{IsOfFiles}
use Rattle.ferry_repo.specs.Opening.{repo_view}
use Rattle.ferry_repo.specs.declared.fault.RepoFault.{RepoFault}

-- the chunk that is read where there is none
abbrev none : ChunkRef
none = record { id = []; size = 0; csize = 0 }

pub returns-in_err-last-clause-refused : goal.returns-in_err-last-clause-refused
returns-in_err-last-clause-refused g c =
    let told = g.S.Shelf.told c.args.shelf.now in
    let later = g.S.Shelf.told c.content_of.new.shelf in
    let source = repo_view c.args.source.now in
    let after = repo_view c.content_of.new.source in
    let refs = c.args.chunks.now in
    let ok = c.in_ok-content.ensures in
    gives_err c.from_residual-in_err-last.result _ _ c.from_residual-in_err-last.ensures.1
    (λ fault is. subst (λ (f : RepoFault). IsOfFiles f → IfSome told (λ t. RefusesJoined (told_files t) source.log source.keys (Some refs) f)) (sym is)
    (last_there told source _ _ refs c.args.shared.now none c.in_err-last.field-0.0
    (λ f. RefusesJoined f source.log source.keys (Some refs) c.in_err-last.field-0.0) c.requires.shares
    (λ of_files. at_first told later source after (λ r f. RefusesContent f r.log r.keys (get_or refs (length refs - 1) none) c.in_err-last.field-0.0) ok.same
    ok.kept (c.in_err-last.ensures.refused of_files))))

pub write-requires-then-are_held-clause-most : goal.write-requires-then-are_held-clause-most
write-requires-then-are_held-clause-most g c =
    subst (λ (n : ℕ). n ≤ 8388608)
    (sym (ap (λ (x : Cutting). x.block) c.pass.ensures.others.0 ∙ (c.in_ok-write.ensures.written Content).1.1.block)) c.requires.most

pub write-requires-then-are_held-clause-room : goal.write-requires-then-are_held-clause-room
write-requires-then-are_held-clause-room g c =
    subst (λ (x : Cutting). length x.piece < x.block) (sym c.pass.ensures.others.0) (c.in_ok-write.ensures.written Content).1.1.room

pub returns-then-are_held-clause-written : goal.returns-then-are_held-clause-written
returns-then-are_held-clause-written g c =
    let told = g.S.Shelf.told c.args.shelf.now in
    let later = g.S.Shelf.told c.content_of.new.shelf in
    let source = repo_view c.args.source.now in
    let after = repo_view c.content_of.new.source in
    let target = repo_view c.args.target.now in
    let refs = c.args.chunks.now in
    let shared = c.args.shared.now in
    let has = c.requires.shares in
    let wholes = has.has.wholes in
    let first = c.deref.result.now in
    let last = c.deref-then-are_held.result.now in
    let count = c.min-skip.result in
    let at = c.saturating_sub-behind.result in
    let behind = take (length last - at) (drop at last) in
    let ok = c.in_ok-content.ensures in
    let pieces = c.args.pieces.now in
    let some = c.write.new.self in
    let passed = c.pass.new.self in
    let known = c.write.new.known in
    let wrote = c.in_ok-write.ensures.written Content in
    let comes : IfSome told (λ t. HoldsContent (told_files t) source.log source.keys (get_or refs 0 none) first) =
    subst (λ (b : List ℕ). IfSome told (λ t. HoldsContent (told_files t) source.log source.keys (get_or refs 0 none) b)) (sym c.deref.ensures.value)
    ok.content in
    let ends : IfSome later (λ t. HoldsContent (told_files t) after.log after.keys (get_or refs (length refs - 1) none) last) =
    subst (λ (b : List ℕ). IfSome later (λ t. HoldsContent (told_files t) after.log after.keys (get_or refs (length refs - 1) none) b))
    (sym c.deref-then-are_held.ensures.value) c.in_ok-last.ensures.content in
    let cut : at ≡ length last - shared.left =
    c.saturating_sub-behind.ensures ∙ ap (λ (n : ℕ). n - shared.left) (c.len.ensures ∙ sym c.deref-then-are_held.ensures.len) in
    let stands = stands_at told later source after (get_or refs (length refs - 1) none) shared.left behind ok.same ok.kept
    (stands_of later after (get_or refs (length refs - 1) none) shared.left last behind ends
    (take_all (length last - at) (drop at last) (omega (arith, length-drop at last)) ∙ ap (λ (n : ℕ). drop n last) cut)) in
    let made : shared.pieces ≡ chunks_of target.keys wholes = has.has.pieces_are ∙ pieces_named target.keys wholes in
    let held : AllByRecursion (λ (one : List ℕ). IsHeld target.log known (content_id target.keys one)) wholes =
    ids_hold (IsHeld target.log known) target.keys wholes
    (subst (AllByRecursion (λ (piece : ChunkRef). IsHeld target.log known piece.id)) (c.as_slice.ensures.chunks ∙ made)
    (c.are_held.ensures.held c.if-are_held.true)) in
    let bytes = shared_bytes told source target.keys.id_key pieces.cutter.block refs shared none none first behind has comes stands in
    let least : min shared.skip (length first) ≡ count =
    sym (c.min-skip.ensures ∙ ap (min shared.skip) (c.len-2.ensures ∙ sym c.deref.ensures.len)) in
    let empty : some.cutter.piece ≡ [] = none_in_hand some.cutter.piece (λ long. none_there c.last.result c.if-is_none.ensures (c.last.ensures.last.1 long)) in
    let full : All (λ (one : List ℕ). length one ≡ some.cutter.block) wholes =
    subst (λ (n : ℕ). All (λ (one : List ℕ). length one ≡ n) wholes) (sym wrote.1.1.block) has.has.full in
    let now = c.write-then-are_held.new.known in
    let left = c.write-then-are_held.new.self in
    chunks_taken target told source refs bytes.contents (take count first ++ (concat wholes ++ behind)) c.args.known.now now pieces left bytes.come
    (bytes.is ∙ ap (λ (n : ℕ). take n first ++ (concat wholes ++ behind)) least)
    (bytes_taken target (take count first) c.args.known.now known now pieces some left (concat wholes ++ behind)
    (bytes_of target (take count first) c.args.known.now known pieces some wrote)
    (bytes_taken target (concat wholes) known known now some passed left behind
    (held_passed target known some passed c.as_slice-then-are_held.result.now wholes wrote.1.1.room empty full (c.as_slice-then-are_held.ensures.chunks ∙ made)
    held c.pass.ensures.others.0 c.in_ok-pass.ensures.chunks c.pass.ensures.others.1.0 c.pass.ensures.others.1.1)
    (bytes_of target behind known now passed left (c.in_ok-write-2.ensures.written Content))))

pub write-requires-2-clause-most : goal.write-requires-2-clause-most
write-requires-2-clause-most g c = subst (λ (n : ℕ). n ≤ 8388608) (sym (c.in_ok-write.ensures.written Content).1.1.block) c.requires.most

pub write-requires-2-clause-room : goal.write-requires-2-clause-room
write-requires-2-clause-room g c = (c.in_ok-write.ensures.written Content).1.1.room

pub write_contents-requires-clause-most : goal.write_contents-requires-clause-most
write_contents-requires-clause-most g c =
    subst (λ (n : ℕ). n ≤ 8388608) (sym ((c.in_ok-write-3.ensures.written Content).1.1.block ∙ (c.in_ok-write.ensures.written Content).1.1.block))
    c.requires.most

pub write_contents-requires-clause-room : goal.write_contents-requires-clause-room
write_contents-requires-clause-room g c = (c.in_ok-write-3.ensures.written Content).1.1.room

pub returns-clause-written : goal.returns-clause-written
returns-clause-written g c =
    let told = g.S.Shelf.told c.args.shelf.now in
    let later = g.S.Shelf.told c.content_of-2.new.shelf in
    let source = repo_view c.args.source.now in
    let after = repo_view c.content_of-2.new.source in
    let target = repo_view c.args.target.now in
    let refs = c.args.chunks.now in
    let others = take (length refs - 1) (drop 1 refs) in
    let one = get_or refs 0 none in
    let first = c.deref.result.now in
    let again = c.deref-2.result.now in
    let count = c.min-skip.result in
    let rest = take (length again - count) (drop count again) in
    let pieces = c.args.pieces.now in
    let some = c.write.new.self in
    let whole = c.write-2.new.self in
    let known = c.write.new.known in
    let middle = c.write-2.new.known in
    let now = c.write_contents.new.known in
    let last = c.write_contents.new.pieces in
    let ok = c.in_ok-content.ensures in
    let comes : IfSome told (λ t. HoldsContent (told_files t) source.log source.keys one first) =
    subst (λ (b : List ℕ). IfSome told (λ t. HoldsContent (told_files t) source.log source.keys one b)) (sym c.deref.ensures.value) ok.content in
    ok_map (TakesChunks target later after others middle whole now last) (TakesChunks target told source refs c.args.known.now pieces now last)
    c.write_contents.result
    (λ more. parts_taken target told later source after (one ∷ []) others refs c.args.known.now middle now pieces whole last
    (first_and refs none c.requires.some) (c.in_ok-last.ensures.same ∙ ok.same) (c.in_ok-last.ensures.kept ∙ ok.kept)
    (chunks_taken target told source (one ∷ []) (first ∷ []) (take count first ++ rest) c.args.known.now middle pieces whole
    (one_comes told source one first comes)
    (one_split count first ∙ ap (λ (b : List ℕ). take count first ++ b)
    (rest_of count first again (c.deref-2.ensures.value ∙ sym c.deref.ensures.value)))
    (bytes_taken target (take count first) c.args.known.now known middle pieces some whole rest
    (bytes_of target (take count first) c.args.known.now known pieces some (c.in_ok-write.ensures.written Content))
    (bytes_of target rest known middle some whole (c.in_ok-write-3.ensures.written Content)))) more) c.write_contents.ensures.written

pub returns-clause-refused : goal.returns-clause-refused
returns-clause-refused g c =
    let told = g.S.Shelf.told c.args.shelf.now in
    let later = g.S.Shelf.told c.content_of-2.new.shelf in
    let source = repo_view c.args.source.now in
    let after = repo_view c.content_of-2.new.source in
    let refs = c.args.chunks.now in
    let others = take (length refs - 1) (drop 1 refs) in
    let one = get_or refs 0 none in
    let ok = c.in_ok-content.ensures in
    err_map (λ (f : RepoFault). IsOfFiles f → IfSome later (λ t. RefusesJoined (told_files t) after.log after.keys (Some others) f))
    (λ (f : RepoFault). IsOfFiles f → IfSome told (λ t. RefusesJoined (told_files t) source.log source.keys (Some refs) f)) c.write_contents.result
    (λ f refused of_files. parts_refused told later source after (one ∷ []) others [] refs (c.in_ok-content.content.items ∷ []) f
    (append-nil ((one ∷ []) ++ others) ∙ first_and refs none c.requires.some) (c.in_ok-last.ensures.same ∙ ok.same) (c.in_ok-last.ensures.kept ∙ ok.kept)
    (one_comes told source one c.in_ok-content.content.items ok.content) (refused of_files)) c.write_contents.ensures.refused
