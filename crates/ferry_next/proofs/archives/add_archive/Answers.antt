use Rattle.std.proofs.Common.{◌≡◌, List, take, drop, not, refl, ap, sym, ◌∙◌, subst}
use Rattle.std.specs.List.{filter, insert}
use Rattle.ferry_manifest.specs.Manifest.Text.{ManifestText, manifest_view}
use Rattle.ferry_manifest.specs.Manifest.Writing.{AreIncreasing, IsPackable, archive_names}
use Rattle.ferry_manifest.specs.declared.manifest.ArchiveRef.{ArchiveRef}
use Rattle.ferry_next.specs.Next.{is_below, with_archive}
use Rattle.ferry_next.proofs.NextLemmas.{entry_packable}
use Rattle.ferry_next.proofs.PlaceLemmas.{placed, with_increasing}
use Rattle.ferry_next.proofs.archives.add_archive.Goals as goal

pub returns-clause-added : goal.returns-clause-added
returns-clause-added c =
    let archives = c.args.manifest.now.archives in
    let entry = c.args.entry in
    let place = c.place_of-place.result in
    let listed : c.into_vec-archives.result.items ≡ archives = c.into_vec-archives.ensures.archives ∙ c.replace-listed.ensures.value in
    let seen : c.as_slice.result.now ≡ archives = c.as_slice.ensures.value ∙ listed in
    let lesser : take place archives ≡ filter (λ a. is_below a.name entry.name) archives =
    subst (λ (l : List ArchiveRef). take place l ≡ filter (λ a. is_below a.name entry.name) l) seen
    (rw c.as_slice-2.ensures at c.place_of-place.ensures.lesser) in
    let others : drop place archives ≡ filter (λ a. not (is_below a.name entry.name)) archives =
    subst (λ (l : List ArchiveRef). drop place l ≡ filter (λ a. not (is_below a.name entry.name)) l) seen
    (rw c.as_slice-2.ensures at c.place_of-place.ensures.others) in
    let all : c.new-3.result ≡ with_archive archives entry =
    c.new-3.ensures.archives ∙ (c.in_ok-inserted.ensures.items ∙ (ap (λ (l : List ArchiveRef). insert l place entry) listed
    ∙ placed archives entry place c.requires.unnamed lesser others)) in
    rw all refl

pub returns-clause-packable : goal.returns-clause-packable
returns-clause-packable c =
    λ is. subst IsPackable (sym (returns-clause-added c)) (entry_packable (manifest_view c.args.manifest.now) c.args.entry is)

pub returns-clause-increasing : goal.returns-clause-increasing
returns-clause-increasing c =
    let archives = c.args.manifest.now.archives in
    let all : c.new-3.result ≡ with_archive archives c.args.entry = ap (λ (t : ManifestText). t.archives) (returns-clause-added c) in
    subst (λ (l : List ArchiveRef). AreIncreasing (archive_names l)) (sym all) (with_increasing archives c.args.entry c.requires.increasing)
