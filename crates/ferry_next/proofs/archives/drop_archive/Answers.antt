use Rattle.std.proofs.Common.{◌≡◌, not, rules, tests, ap, sym, ◌∙◌, subst, refl}
use Rattle.std.proofs.lemmas.Fn.{filter_same}
use Rattle.std.specs.List.{filter}
use Rattle.std.specs.Str.{bytes_eq}
use Rattle.ferry_manifest.specs.Manifest.Text.{manifest_view}
use Rattle.ferry_manifest.specs.Manifest.Writing.{IsPackable}
use Rattle.ferry_manifest.specs.declared.manifest.ArchiveRef.{ArchiveRef}
use Rattle.ferry_next.specs.Next.{without_archive}
use Rattle.ferry_next.proofs.NextLemmas.{without_packable}
use Rattle.ferry_next.proofs.PlaceLemmas.{without_is}
use Rattle.ferry_next.proofs.archives.drop_archive.Goals as goal

pub returns-clause-dropped : goal.returns-clause-dropped
returns-clause-dropped c =
    let archives = c.args.manifest.now.archives in
    let name = c.args.name.now in
    let others = λ (a : ArchiveRef). not (bytes_eq a.name name) in
    let listed : c.into_vec-archives.result.items ≡ archives = c.into_vec-archives.ensures.archives ∙ c.replace-listed.ensures.value in
    let kept : c.retain.new.self.items ≡ filter others c.into_vec-archives.result.items =
    filter_same _ others _ (λ x b f' k. search (rules, tests)) _ _ c.retain.ensures.filtered in
    let all : c.new-3.result ≡ without_archive archives name =
    c.new-3.ensures.archives ∙ without_is archives c.retain.new.self.items name (kept ∙ ap (filter others) listed) in
    rw all refl

pub returns-clause-packable : goal.returns-clause-packable
returns-clause-packable c =
    λ is. subst IsPackable (sym (returns-clause-dropped c)) (without_packable (manifest_view c.args.manifest.now) c.args.name.now is)
