-- How many pieces of contents are put of all archives of the drill: those of the file that all of them have once, and those of the others of each.
use Rattle.std.proofs.Common.{◌≡◌, ◌≤◌, ◌<◌, ◌+◌, ◌*◌, inl, inr, ℕ, zero, suc, List, [], ◌∷◌, ◌++◌, sym, ◌∙◌, ap, subst, arith}
use Rattle.ferry_carry.specs.Carrying.{SaysIn}
use Rattle.ferry_carry.specs.Counting.{CountsOf}
use Rattle.ferry_carry.specs.Listing.{ListsArchive, ListsItems, ListsName, ListsNames}
use Rattle.ferry_carry.specs.Naming.{TaggedRecord}
use Rattle.ferry_carry.specs.declared.options.Carried.{Carried}
use Rattle.ferry_disk.specs.Files.{Files}
use Rattle.ferry_gen.specs.Archives.{drill_archive, drill_items}
use Rattle.ferry_gen.specs.Content.{archive_name}
use Rattle.ferry_mac.specs.declared.keys.Keys.{Keys}
use Rattle.ferry_manifest.specs.Manifest.Text.{ManifestText}
use Rattle.ferry_piece.specs.Puts.{Addition, Record, addition, contents_in}
use Rattle.ferry_repo.proofs.WholeLemmas.{one_whole}
use Rattle.ferry_repo.specs.Opening.{RepoState}
use Rattle.ferry_repo.specs.Whole.{WholeArchive}
use Rattle.ferry_run_drill.proofs.ApartLemmas.{AreApart, HasFirst, bound_at, counts_again, counts_first, first_there}
use Rattle.ferry_run_drill.proofs.NameLemmas.{AreBelow, SaysAll, below_next, below_none, names_from, not_there}
use Rattle.ferry_run_drill.proofs.NewLemmas.{Counts, PutsNew, counts_none, counts_then, puts_split}
use Rattle.ferry_run_drill.proofs.PieceLemmas.{CountsArchive, CountsFirst, counts_archive, has_wider}
use Rattle.ferry_run_drill.specs.Steps.{drill_origin}

-- ---- one archive

one_counts : (source : Files) (repo : RepoState) (keys : Keys) (archive count : ℕ) (before : List (List ℕ)) (one : TaggedRecord) (added : List Addition)
    → SaysIn source repo (archive_name archive) (drill_archive archive) → archive < 64 → CountsFirst archive count before
    → ListsArchive source (drill_origin source repo) keys (archive_name archive) one added → PutsNew before added
    → CountsArchive archive (count + 280) before added
one_counts source repo keys archive count before one added says less first lists puts =
    let contents = lists.lists in
    let same : contents.whole ≡ drill_archive archive =
    one_whole source repo.log repo.keys repo.manifest.archives (archive_name archive) contents.whole (drill_archive archive) contents.source says in
    let items : ListsItems keys 512 [] (drill_items archive) contents.listed contents.piece =
    subst (λ (w : WholeArchive). ListsItems keys 512 [] w.items contents.listed contents.piece) same contents.lists in
    counts_archive keys archive count before contents.listed contents.last added contents.piece one.salt one.text lists.put lists.copy.copied less first items
    contents.last_is lists.copy.text_is
    (lists.added_is ∙ ap (λ (l : List Addition). l ++ addition Record one.text lists.put ∷ []) contents.added_is) puts

-- ---- all of them

-- What is added for the name of an archive that comes, and for those behind it.
pub record ListsMore (source : Files) (repo : RepoState) (keys : Keys) (accepted : ManifestText) (before : List (List ℕ)) (first count : ℕ)
    (added : List Addition) : Type 0 where
  pub tagged : TaggedRecord
  pub one : List Addition
  pub rest : List Addition
  pub added_is : added ≡ one ++ rest
  pub lists : ListsArchive source (drill_origin source repo) keys (archive_name first) tagged one
  pub others : List TaggedRecord
  pub later : ListsNames (drill_origin source repo) keys accepted (before ++ archive_name first ∷ []) (names_from (suc first) count) others rest

pub lists_more : (source : Files) (repo : RepoState) (keys : Keys) (accepted : ManifestText) (before : List (List ℕ)) (first count : ℕ)
    (records : List TaggedRecord) (added : List Addition) → accepted.archives ≡ [] → AreBelow before first → first < 64
    → ListsNames (drill_origin source repo) keys accepted before (names_from first (suc count)) records added
    → ListsMore source repo keys accepted before first count added
unfolding names_from
lists_more source repo keys accepted before first count records added none below less lists = by lists.1.1.1.1.1.1.0 where
  by : ListsName (drill_origin source repo) keys accepted before (archive_name first) lists.0 lists.1.1.1.0
      → ListsMore source repo keys accepted before first count added
  by (inl there) = absurd (not_there accepted before first none below less there.0)
  by (inr new) = record {
    tagged = new.1.0;
    one = lists.1.1.1.0;
    rest = lists.1.1.1.1.0;
    added_is = lists.1.1.1.1.1.0;
    lists = new.1.1.1;
    others = lists.1.0;
    later = lists.1.1.1.1.1.1.1;
  }

-- the archives behind the first
counts_later : (source : Files) (repo : RepoState) (keys : Keys) (accepted : ManifestText) (before contents : List (List ℕ)) (first count : ℕ)
    (records : List TaggedRecord) (added : List Addition) → accepted.archives ≡ [] → AreBelow before first → first + count ≤ 64
    → SaysAll source repo (first + count) → HasFirst contents → AreApart (bound_at first 0) contents → PutsNew contents added
    → ListsNames (drill_origin source repo) keys accepted before (names_from first count) records added → Counts (280 * count) added
unfolding names_from
counts_later source repo keys accepted before contents first zero records added none below most says has apart puts lists =
    subst (Counts 0) (sym lists.1) counts_none
counts_later source repo keys accepted before contents first (suc count) records added none below most says has apart puts lists =
    let more = lists_more source repo keys accepted before first count records added none below (omega (arith, most)) lists in
    let split = puts_split contents more.one more.rest (subst (PutsNew contents) more.added_is puts) in
    let again : CountsFirst first 0 contents =
    λ own are own_is new. (counts_again first contents own are own_is has apart new, has_wider contents (contents_in own) has) in
    let one = one_counts source repo keys first 0 contents more.tagged more.one (says first (omega arith)) (omega (arith, most)) again more.lists split.0 in
    let later = counts_later source repo keys accepted (before ++ archive_name first ∷ []) (contents ++ contents_in more.one) (suc first) count more.others
    more.rest none (below_next before first below) (omega (arith, most)) (λ n low. says n (omega (arith, low))) one.first one.apart split.1 more.later in
    subst (Counts (280 * suc count)) (sym more.added_is)
    (counts_then more.one more.rest 280 (280 * count) (280 * suc count) one.counts later (omega arith))

-- all archives of a source that has one at least
pub counts_all : (source : Files) (repo : RepoState) (keys : Keys) (accepted : ManifestText) (count : ℕ) (records : List TaggedRecord) (added : List Addition)
    → accepted.archives ≡ [] → 1 ≤ count → count ≤ 64 → SaysAll source repo count → PutsNew [] added
    → ListsNames (drill_origin source repo) keys accepted [] (names_from 0 count) records added → Counts (280 * count + 8) added
counts_all source repo keys accepted zero records added none some most says puts lists = absurd (let no : ⊥ = omega (arith, some) in no)
counts_all source repo keys accepted (suc count) records added none some most says puts lists =
    let more = lists_more source repo keys accepted [] 0 count records added none (below_none 0) (omega arith) lists in
    let split = puts_split [] more.one more.rest (subst (PutsNew []) more.added_is puts) in
    let new : CountsFirst 0 8 [] = λ own are own_is added. (counts_first [] own are own_is tt added, first_there [] own own_is) in
    let one = one_counts source repo keys 0 8 [] more.tagged more.one (says 0 (omega arith)) (omega arith) new more.lists split.0 in
    let later = counts_later source repo keys accepted (archive_name 0 ∷ []) (contents_in more.one) 1 count more.others more.rest none
    (below_next [] 0 (below_none 0)) (omega (arith, most)) (λ n low. says n (omega (arith, low))) one.first one.apart split.1 more.later in
    subst (Counts (280 * suc count + 8)) (sym more.added_is)
    (counts_then more.one more.rest 288 (280 * count) (280 * suc count + 8) one.counts later (omega arith))

-- the numbers of a transfer that put so many
pub totals_are : (count : ℕ) (added : List Addition) (carried : Carried) → count ≤ 64 → CountsOf added carried → Counts (280 * count + 8) added
    → (carried.chunks ≡ 280 * count + 8) × (carried.bytes ≡ 512 * (280 * count + 8))
totals_are count added carried most totals counts =
    (omega (arith, most, totals.chunks, counts.chunks), omega (arith, most, totals.bytes, counts.bytes))
