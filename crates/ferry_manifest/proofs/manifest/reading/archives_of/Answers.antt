use Rattle.std.proofs.Common.{◌≡◌, None, Some, get_or, option_and_then, sym, ◌∙◌, arith, rules}
use Rattle.std.proofs.lemmas.Result.{err_from_is_err_and}
use Rattle.ferry_msgpack.specs.View.{value_view}
use Rattle.ferry_fields.specs.Fields.{pairs_in}
use Rattle.ferry_manifest.specs.Manifest.Text.{archive_from}
use Rattle.ferry_manifest.proofs.Manifests.ReadLemmas.{archives_start, archives_more, archives_lost, archives_done}
use Rattle.ferry_manifest.proofs.manifest.reading.archives_of.Goals as goal

pub loop-place-init : goal.loop-place-init
loop-place-init c = rw c.new-archives.ensures.items (archives_start c.args.pairs.now)

pub returns-in_err-archive-clause-fault : goal.returns-in_err-archive-clause-fault
returns-in_err-archive-clause-fault c =
    let es = c.args.pairs.now in
    let place = c.loop-place.place in
    let e = c.index-pairs-place.result in
    let p = err_from_is_err_and c.from_residual.result c.from_residual.ensures.1 in
    let told = c.in_err-archive.ensures.fault in
    rw (p.1, p.2) (λ h.
    let found = told h in
    let none : option_and_then (archive_from (get_or es place e).0.items) (pairs_in (value_view (get_or es place e).1)) ≡ None = search rules in
    (found.0, archives_lost c.loop-place.archives.items es place e (omega arith) none c.loop-place.invariant))

pub loop-place-preserved : goal.loop-place-preserved
loop-place-preserved c =
    let es = c.args.pairs.now in
    let place = c.loop-place.place in
    let e = c.index-pairs-place.result in
    let some : option_and_then (archive_from (get_or es place e).0.items) (pairs_in (value_view (get_or es place e).1)) ≡ Some c.in_ok-archive.archive =
    search rules in
    rw c.in_ok-push.ensures.items (archives_more c.loop-place.archives.items c.in_ok-archive.archive es place e (omega arith) some ∙ c.loop-place.invariant)

pub returns-clause-archives : goal.returns-clause-archives
returns-clause-archives c =
    rw c.new.ensures.archives (sym c.loop-place.invariant ∙ archives_done c.loop-place.archives.items c.args.pairs.now c.loop-place.place (omega arith))
