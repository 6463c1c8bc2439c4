-- Lemmas on specs/Tagging.antt: what an archive goes on using, and one list of the records that go.
use Rattle.std.proofs.Common.{◌≡◌, inl, inr, ℕ, true, false, List, ◌++◌, refl, ap, subst, arith}
use Rattle.std.specs.List.{AllByRecursion, flat_map}
use Rattle.ferry_check.proofs.MarkLemmas.{either_way}
use Rattle.ferry_check.specs.Report.{ids_of, ids_used, is_among, ArchiveRead}
use Rattle.ferry_disk.specs.Files.{Files}
use Rattle.ferry_repo.specs.Opening.{RepoState}
use Rattle.ferry_repo.specs.Whole.{IsWhole, WholeArchive}
use Rattle.ferry_refs.proofs.DeletedLemmas.{one_list}
use Rattle.ferry_refs.proofs.LawLemmas.{one_read}
use Rattle.ferry_refs.proofs.WholeLemmas.{all_among, read_of, among_occurs, reads_among}
use Rattle.ferry_refs.specs.Refs.{occurrences}
use Rattle.ferry_refs.specs.Tagging.{AreFreed, IsFreed, ids_kept}

kept_tagged : (read : ArchiveRead) → read.archive.tagged ≡ true → ids_kept read ≡ ids_used read
kept_tagged read e = rw e refl

kept_untagged : (read : ArchiveRead) → read.archive.tagged ≡ false → ids_kept read ≡ read.archive.items ++ flat_map ids_of read.items
kept_untagged read e = rw e refl

-- an id that nothing uses any more is none of those that an archive goes on using
module _ (start : Files) (repo : RepoState) (name : List ℕ) (whole : WholeArchive)
    (is : IsWhole start repo.log repo.keys repo.manifest.archives name whole) where
  abbrev read : ArchiveRead
  read = read_of start repo.log repo.keys repo.manifest.archives name whole is

  kept_still : (id : List ℕ) → IsFreed start repo id → is_among id (ids_kept read) ≡ true → ⊥
  kept_still id freed used =
      let among = reads_among ids_kept start repo name id is.named repo.manifest.archives freed.reads is.named_is freed.are_read in
      let same : among.read ≡ read = one_read start repo name among.read read among.is
      (record { named = is.named; named_is = is.named_is; id = refl; record_is = is.record_is; stream = is.stream }) in
      let count : occurrences id (ids_kept among.read) ≡ occurrences id (ids_kept read) = ap (λ (r : ArchiveRead). occurrences id (ids_kept r)) same in
      let some = among_occurs id (ids_kept read) used in
      let none = freed.unused in
      absurd (omega (arith, among.fewer, count, some, none))

  kept_spared : (ids : List (List ℕ)) → ((id : List ℕ) → is_among id ids ≡ true → IsFreed start repo id)
      → AllByRecursion (λ id. is_among id ids ≡ false) (ids_kept read)
  kept_spared ids freed =
      all_among (λ id. is_among id ids ≡ false) (ids_kept read)
      (λ id used. elim (either_way (is_among id ids)) [
        | inl there ↦ absurd (kept_still id (freed id there) used)
        | inr off ↦ off
      ])

  -- where its record has a tag these are all, and else all but its record's
  pub all_spared : (ids : List (List ℕ)) → is.archive.tagged ≡ true → ((id : List ℕ) → is_among id ids ≡ true → IsFreed start repo id)
      → AllByRecursion (λ id. is_among id ids ≡ false) (ids_used read)
  all_spared ids tagged freed =
      subst (AllByRecursion (λ id. is_among id ids ≡ false)) (kept_tagged read tagged) (kept_spared ids freed)

  pub rest_spared : (ids : List (List ℕ)) → is.archive.tagged ≡ false → ((id : List ℕ) → is_among id ids ≡ true → IsFreed start repo id)
      → AllByRecursion (λ id. is_among id ids ≡ false) (is.archive.items ++ flat_map ids_of is.items)
  rest_spared ids off freed =
      subst (AllByRecursion (λ id. is_among id ids ≡ false))
      (kept_untagged read off) (kept_spared ids freed)

-- ---- one list

pub one_freed : (files : Files) (repo : RepoState) (ids others : List (List ℕ)) → AreFreed files repo ids → AreFreed files repo others → ids ≡ others
one_freed files repo ids others a b = one_list (IsFreed files repo) ids others a.sorted b.sorted a.each b.each
