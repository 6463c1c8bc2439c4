use Rattle.std.proofs.Common.{◌≡◌, ◌∙◌, rules, tests}
use Rattle.std.proofs.lemmas.Iterator.{YieldsList-from_slice}
use Rattle.std.proofs.lemmas.Iterator.Search.{any_from_yields_List}
use Rattle.std.specs.List.{list_any}
use Rattle.std.specs.Str.{bytes_eq}
use Rattle.ferry_manifest.specs.declared.manifest.ArchiveRef.{ArchiveRef}
use Rattle.ferry_next.proofs.PlaceLemmas.{named_any}
use Rattle.ferry_next.proofs.archives.has_archive.Goals as goal

pub returns : goal.returns
returns c =
    let archives = c.args.manifest.now.archives in
    let name = c.args.name.now in
    let any : c.any.result ≡ list_any (λ (a : ArchiveRef). bytes_eq a.name name) archives =
    any_from_yields_List (λ a. bytes_eq a.name name) _ _ c.any.result c.any.ensures.ran
    (YieldsList-from_slice archives (c.iter.ensures.rest ∙ c.as_slice.ensures.archives)) (λ x b q k. search (rules, tests)) in
    record { has = any ∙ named_any name archives }
