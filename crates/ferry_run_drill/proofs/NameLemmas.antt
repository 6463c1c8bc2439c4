-- The names of the drill's archives, one after another: what a transfer lists, names and tells of them.
use Rattle.std.proofs.Common.{◌≡◌, ◌≤◌, ◌<◌, ◌+◌, inl, inr, ℕ, zero, suc, Bool, true, false, List, [], ◌∷◌, ◌++◌, length, map, Option, Some, None}
use Rattle.std.proofs.Common.{IsSome, if◌then◌else◌, length-append, refl, sym, ◌∙◌, ap, subst, arith}
use Rattle.std.proofs.lemmas.List.{append-nil, append_assoc}
use Rattle.std.specs.List.{AllByRecursion, slice_get}
use Rattle.ferry_blob.specs.Blob.{content_id}
use Rattle.ferry_carry.proofs.CutLemmas.{among_either, among_none, among_one}
use Rattle.ferry_carry.specs.Accepting.{AreNextOf, IsNextOf}
use Rattle.ferry_carry.specs.Carrying.{SaysIn}
use Rattle.ferry_carry.specs.Copied.{IsCopyOf, adds_of}
use Rattle.ferry_carry.specs.Counting.{CountsNames, TellsNew}
use Rattle.ferry_carry.specs.Lines.{name_line, told_of}
use Rattle.ferry_carry.specs.Listing.{IsThere, ListsArchive, ListsName, ListsNames}
use Rattle.ferry_carry.specs.Naming.{TaggedRecord, entry_for, record_ids}
use Rattle.ferry_carry.specs.Telling.{AreLines}
use Rattle.ferry_disk.specs.Files.{Files}
use Rattle.ferry_gen.proofs.ListLemmas.{entries_with, entry_at, entry_none, name_apart, slice_at}
use Rattle.ferry_gen.specs.Archives.{AreRecordsOf, IsRecordOf, contents_from, drill_archive, drill_items, entries_from, entry_of}
use Rattle.ferry_gen.specs.Content.{archive_name, archive_time}
use Rattle.ferry_mac.specs.declared.keys.Keys.{Keys}
use Rattle.ferry_manifest.specs.Manifest.Text.{ManifestText}
use Rattle.ferry_manifest.specs.declared.manifest.ArchiveRef.{ArchiveRef}
use Rattle.ferry_next.specs.Next.{with_archive}
use Rattle.ferry_piece.proofs.AmongLemmas.{all_both, among_behind, among_front, each_to}
use Rattle.ferry_piece.proofs.PutsLemmas.{contents_append}
use Rattle.ferry_piece.specs.Gather.{IsAmong}
use Rattle.ferry_piece.specs.Puts.{Addition, contents_in}
use Rattle.ferry_repo.proofs.WholeLemmas.{one_whole}
use Rattle.ferry_repo.specs.Archives.{archive_named}
use Rattle.ferry_repo.specs.Opening.{RepoState}
use Rattle.ferry_repo.specs.Whole.{WholeArchive}
use Rattle.ferry_run_drill.proofs.ListedLemmas.{archive_among}
use Rattle.ferry_run_drill.specs.Drill.{lines_from, target_block}
use Rattle.ferry_run_drill.specs.Steps.{drill_origin}
use Rattle.std.specs.Str.{bytes_eq}
use Rattle.std.proofs.lemmas.Slice.Eq.{bytes_eq-Decides}

-- ---- names

-- the names of so many archives, from an archive on
unfoldable pub names_from : ℕ → ℕ → List (List ℕ)
names_from first zero = []
names_from first (suc count) = archive_name first ∷ names_from (suc first) count

pub entry_names : (keys : Keys) (first : ℕ) (texts : List (List ℕ))
    → map (λ (entry : ArchiveRef). entry.name) (entries_from keys first texts) ≡ names_from first (length texts)
unfolding entries_from names_from
entry_names keys first [] = refl
entry_names keys first (t ∷ ts) = ap (λ (l : List (List ℕ)). archive_name first ∷ l) (entry_names keys (suc first) ts)

pub names_size : (first count : ℕ) → length (names_from first count) ≡ count
unfolding names_from
names_size first zero = refl
names_size first (suc count) = ap suc (names_size (suc first) count)

-- what holds of each name holds of that of each archive
pub name_at : (P : List ℕ → Type 0) (first count place : ℕ) → AllByRecursion P (names_from first count) → place < count → P (archive_name (first + place))
unfolding names_from
name_at P first zero place all low = absurd (omega (arith, low))
name_at P first (suc count) zero all low = let e : first ≡ first + 0 = omega arith in subst (λ (n : ℕ). P (archive_name n)) e all.0
name_at P first (suc count) (suc place) all low =
    let e : suc first + place ≡ first + suc place = omega arith in
    subst (λ (n : ℕ). P (archive_name n)) e (name_at P (suc first) count place all.1 (omega (arith, low)))

-- the same of all names
pub name_of : (P : List ℕ → Type 0) (count place : ℕ) → AllByRecursion P (names_from 0 count) → place < count → P (archive_name place)
name_of P count place all low =
    let e : 0 + place ≡ place = omega arith in subst (λ (n : ℕ). P (archive_name n)) e (name_at P 0 count place all low)

-- None of these is the name of an archive from this one on.
abbrev pub AreBelow : List (List ℕ) → ℕ → Type 0
AreBelow before first = (later : ℕ) → first ≤ later → later < 64 → IsAmong before (archive_name later) → ⊥

pub below_none : (first : ℕ) → AreBelow [] first
below_none first later most low among = absurd (among_none (archive_name later) among)

differ : (low high : ℕ) → low < high → high < 64 → archive_name low ≡ archive_name high → ⊥
differ low high less most same =
    let yes : bytes_eq (archive_name low) (archive_name high) ≡ true = (bytes_eq-Decides (archive_name low) (archive_name high)).1 same in
    let no : ⊥ = (let e : true ≡ false = sym yes ∙ name_apart low high less most in cc) in no

pub below_next : (before : List (List ℕ)) (first : ℕ) → AreBelow before first → AreBelow (before ++ archive_name first ∷ []) (suc first)
below_next before first below later most low among = elim (among_either before (archive_name first ∷ []) (archive_name later) among) [
  | inl old ↦ below later (omega (arith, most)) low old
  | inr new ↦ differ first later (omega (arith, most)) low (among_one (archive_name first) (archive_name later) new)
]

-- a manifest without archives has no name
pub none_named : (archives : List ArchiveRef) (name : List ℕ) → archives ≡ [] → archive_named name archives ≡ None
unfolding archive_named
none_named archives name is = ap (archive_named name) is

pub not_there : (accepted : ManifestText) (before : List (List ℕ)) (first : ℕ) → accepted.archives ≡ [] → AreBelow before first → first < 64
    → IsThere accepted before (archive_name first) → ⊥
not_there accepted before first none below low (inl has) =
    let is : false ≡ true = subst IsSome (none_named accepted.archives (archive_name first) none) has in
    let no : ⊥ = cc in no
not_there accepted before first none below low (inr among) = below first (omega arith) low among

-- ---- what is listed

abbrev pub texts_of : List TaggedRecord → List (List ℕ)
texts_of records = map (λ (one : TaggedRecord). one.text) records

-- These are the records of so many archives from one on, and what was added is among their contents.
pub record AreListed (keys : Keys) (first count : ℕ) (records : List TaggedRecord) (added : List Addition) : Type 0 where
  pub size : length records ≡ count
  pub are : AreRecordsOf keys target_block first (texts_of records)
  pub among : AllByRecursion (IsAmong (contents_from keys target_block first (texts_of records))) (contents_in added)

-- The archives of a source are whole and say what those of the drill say.
abbrev pub SaysAll : Files → RepoState → ℕ → Type 0
SaysAll source repo count = (archive : ℕ) → archive < count → SaysIn source repo (archive_name archive) (drill_archive archive)

record_listed : (source : Files) (repo : RepoState) (keys : Keys) (first : ℕ) (one : TaggedRecord) (added : List Addition)
    → SaysIn source repo (archive_name first) (drill_archive first)
    → ListsArchive source (drill_origin source repo) keys (archive_name first) one added
    → IsRecordOf keys target_block first one.text × AllByRecursion (IsAmong (adds_of keys target_block (drill_items first) one.text)) (contents_in added)
record_listed source repo keys first one added says lists =
    let whole = lists.lists.whole in
    let same : whole ≡ drill_archive first =
    one_whole source repo.log repo.keys repo.manifest.archives (archive_name first) whole (drill_archive first) lists.lists.source says in (
      (one.salt, subst (λ (w : WholeArchive). IsCopyOf keys target_block w.items w.fields one.salt one.text) same lists.copy),
      subst (λ (w : WholeArchive). AllByRecursion (IsAmong (adds_of keys target_block w.items one.text)) (contents_in added)) same
          (archive_among source (drill_origin source repo) keys (archive_name first) one added lists),
    )

pub all_listed : (source : Files) (repo : RepoState) (keys : Keys) (accepted : ManifestText) (before : List (List ℕ)) (first count : ℕ)
    (records : List TaggedRecord) (added : List Addition) → accepted.archives ≡ [] → AreBelow before first → first + count ≤ 64
    → SaysAll source repo (first + count)
    → ListsNames (drill_origin source repo) keys accepted before (names_from first count) records added → AreListed keys first count records added
unfolding names_from contents_from
all_listed source repo keys accepted before first zero records added none below most says lists = record {
  size = ap length lists.0;
  are = subst (λ (r : List TaggedRecord). AreRecordsOf keys target_block first (texts_of r)) (sym lists.0) tt;
  among = subst (λ (l : List Addition). AllByRecursion (IsAmong (contents_from keys target_block first (texts_of records))) (contents_in l)) (sym lists.1) tt;
}
all_listed source repo keys accepted before first (suc count) records added none below most says lists =
    by (all_listed source repo keys accepted (before ++ archive_name first ∷ []) (suc first) count lists.1.0 lists.1.1.1.1.0 none
    (below_next before first below)
    (omega (arith, most)) (λ n low. says n (omega (arith, low))) lists.1.1.1.1.1.1.1) lists.1.1.1.1.1.1.0
  where
    own : List TaggedRecord
    own = lists.0

    others : List TaggedRecord
    others = lists.1.0

    records_are : records ≡ own ++ others
    records_are = lists.1.1.0

    one : List Addition
    one = lists.1.1.1.0

    rest : List Addition
    rest = lists.1.1.1.1.0

    added_are : added ≡ one ++ rest
    added_are = lists.1.1.1.1.1.0

    with_one : AreListed keys (suc first) count others rest → (r : TaggedRecord) → own ≡ r ∷ []
        → ListsArchive source (drill_origin source repo) keys (archive_name first) r one
        → AreListed keys first (suc count) records added
    with_one later r own_is archive =
        let both = record_listed source repo keys first r one (says first (omega (arith, most))) archive in
        let is : records ≡ r ∷ others = records_are ∙ ap (λ (l : List TaggedRecord). l ++ others) own_is in
        let contents = contents_from keys target_block (suc first) (texts_of others) in
        let mine = adds_of keys target_block (drill_items first) r.text in
        let all : AllByRecursion (IsAmong (mine ++ contents)) (contents_in added) =
        subst (λ (l : List Addition). AllByRecursion (IsAmong (mine ++ contents)) (contents_in l)) (sym added_are)
        (subst (AllByRecursion (IsAmong (mine ++ contents))) (sym (contents_append one rest))
        (all_both (IsAmong (mine ++ contents)) (contents_in one) (contents_in rest)
        (each_to (IsAmong mine) (IsAmong (mine ++ contents)) (contents_in one) (λ c among. among_front mine contents c among) both.1)
        (each_to (IsAmong contents) (IsAmong (mine ++ contents)) (contents_in rest) (λ c among. among_behind mine contents c among) later.among))) in
        record {
          size = ap length is ∙ ap suc later.size;
          are = subst (λ (l : List TaggedRecord). AreRecordsOf keys target_block first (texts_of l)) (sym is) (both.0, later.are);
          among = subst (λ (l : List TaggedRecord). AllByRecursion (IsAmong (contents_from keys target_block first (texts_of l))) (contents_in added))
              (sym is) all;
        }

    by : AreListed keys (suc first) count others rest → ListsName (drill_origin source repo) keys accepted before (archive_name first) own one
        → AreListed keys first (suc count) records added
    by later (inl there) = absurd (not_there accepted before first none below (omega (arith, most)) there.0)
    by later (inr new) = with_one later new.1.0 new.1.1.0 new.1.1.1

-- ---- what is named

entry_of_name : (keys : Keys) (place : ℕ) (texts : List (List ℕ)) (text : List ℕ) → length texts ≤ 64 → slice_get texts place ≡ Some text
    → archive_named (archive_name place) (entries_from keys 0 texts) ≡ Some (entry_of keys place text)
entry_of_name keys place texts text few at =
    let e : 0 + place ≡ place = omega arith in
    subst (λ (n : ℕ). archive_named (archive_name n) (entries_from keys 0 texts) ≡ Some (entry_of keys n text)) e
    (entry_at keys 0 place texts text (omega (arith, few)) at)

-- the manifest behind the archives has their entries
pub all_next : (given : Option (List ℕ)) (source manifest manifest_now : ManifestText) (source_keys keys : Keys) (source_texts texts : List (List ℕ))
    (first count : ℕ) (records : List TaggedRecord) (ids : List (List ℕ)) → source.archives ≡ entries_from source_keys 0 source_texts
    → manifest.archives ≡ entries_from keys 0 texts → length texts ≡ first → first + count ≤ 64 → first + count ≤ length source_texts → length source_texts ≤ 64
    → length records ≡ count → ids ≡ record_ids keys records → AreNextOf given source manifest (names_from first count) ids manifest_now
    → manifest_now.archives ≡ entries_from keys 0 (texts ++ texts_of records)
unfolding names_from
all_next given source manifest manifest_now source_keys keys source_texts texts first zero [] ids from are size most all_source few length_is ids_are next =
    ap (λ (m : ManifestText). m.archives) next.1 ∙ (are ∙ ap (entries_from keys 0) (sym (append-nil texts)))
all_next given source manifest manifest_now source_keys keys source_texts texts first zero (r ∷ rs) ids from are size most
    all_source few length_is ids_are next =
    absurd (let no : ⊥ = omega (arith, length_is) in no)
all_next given source manifest manifest_now source_keys keys source_texts texts first (suc count) [] ids from are size most
    all_source few length_is ids_are next =
    absurd (let no : ⊥ = omega (arith, length_is) in no)
all_next given source manifest manifest_now source_keys keys source_texts texts first (suc count) (r ∷ rs) ids from are size most all_source few
    length_is ids_are next =
    by (λ middle_is grown others_are.
    all_next given source next.1.1.1.0 manifest_now source_keys keys source_texts (texts ++ r.text ∷ []) (suc first) count rs next.1.0 from middle_is grown
    (omega (arith, most)) (omega (arith, all_source)) few (let e : length rs ≡ count = omega (arith, length_is) in e) others_are next.1.1.1.1.1) next.1.1.1.1.0
  where
    own : List (List ℕ)
    own = next.0

    others : List (List ℕ)
    others = next.1.0

    parts : ids ≡ own ++ others
    parts = next.1.1.0

    middle : ManifestText
    middle = next.1.1.1.0

    by : (middle.archives ≡ entries_from keys 0 (texts ++ r.text ∷ []) → length (texts ++ r.text ∷ []) ≡ suc first → others ≡ record_ids keys rs
        → manifest_now.archives ≡ entries_from keys 0 ((texts ++ r.text ∷ []) ++ texts_of rs)) → IsNextOf given source manifest (archive_name first) own middle
        → manifest_now.archives ≡ entries_from keys 0 (texts ++ texts_of (r ∷ rs))
    by later (inl there) =
        let none = ap (archive_named (archive_name first)) are ∙ entry_none keys 0 first texts (omega (arith, size)) (omega (arith, most)) in
        let is : false ≡ true = subst IsSome none there.0 in
        absurd (let no : ⊥ = cc in no)
    by later (inr found) =
        let new = found.0 in
        let id = found.1.0 in
        let split : id ∷ others ≡ content_id keys r.text ∷ record_ids keys rs =
        sym (parts ∙ ap (λ (l : List (List ℕ)). l ++ others) found.1.1.0) ∙ ids_are in
        let id_is : id ≡ content_id keys r.text = cc in
        let others_are : others ≡ record_ids keys rs = cc in
        let at = slice_at source_texts first (omega (arith, all_source)) in
        let named_is : new.named ≡ entry_of source_keys first at.0 =
        (let e : Some new.named ≡ Some (entry_of source_keys first at.0) =
        sym new.named_is ∙ (ap (archive_named (archive_name first)) from ∙ entry_of_name source_keys first source_texts at.0 few at.1) in cc) in
        let entry_is : entry_for new.named id ≡ entry_of keys first r.text =
        ap (λ (n : ArchiveRef). entry_for n id) named_is ∙ ap (λ (i : List ℕ). record { name = archive_name first; id = i; time = archive_time }) id_is in
        let middle_is : middle.archives ≡ entries_from keys 0 (texts ++ r.text ∷ []) =
        ap (λ (m : ManifestText). m.archives) found.1.1.1
        ∙ (ap (λ (l : List ArchiveRef). with_archive l (entry_for new.named id)) are
        ∙ (ap (with_archive (entries_from keys 0 texts)) entry_is ∙ entries_with keys first texts r.text size (omega (arith, most)))) in
        let grown : length (texts ++ r.text ∷ []) ≡ suc first = length-append texts (r.text ∷ [])
        ∙ (let e : length texts + 1 ≡ suc first = omega (arith, size) in e) in
        later middle_is grown others_are ∙ ap (entries_from keys 0) (append_assoc texts (r.text ∷ []) (texts_of rs))

-- ---- what is told

pub all_lines : (accepted : ManifestText) (before : List (List ℕ)) (first count : ℕ) (lines : List (List ℕ)) → accepted.archives ≡ [] → AreBelow before first
    → first + count ≤ 64 → AreLines accepted before lines (names_from first count) → lines ≡ lines_from first count
unfolding names_from lines_from
all_lines accepted before first zero [] none below most are = refl
all_lines accepted before first zero (line ∷ lines) none below most are = absurd are
all_lines accepted before first (suc count) [] none below most are = absurd are
all_lines accepted before first (suc count) (line ∷ lines) none below most are =
    let later = all_lines accepted (before ++ archive_name first ∷ []) (suc first) count lines none (below_next before first below)
    (omega (arith, most)) are.1 in
    let here : line ≡ name_line (told_of true) (archive_name first) = by are.0.0 are.0.1.0 are.0.1.1 in
    ap (λ (l : List ℕ). l ∷ lines) here ∙ ap (λ (l : List (List ℕ)). name_line (told_of true) (archive_name first) ∷ l) later
  where
    by : (copied : Bool) → line ≡ name_line (told_of copied) (archive_name first) → TellsNew accepted before (archive_name first) copied
        → line ≡ name_line (told_of true) (archive_name first)
    by true is new = is
    by false is there = absurd (not_there accepted before first none below (omega (arith, most)) there)

pub all_new : (accepted : ManifestText) (before : List (List ℕ)) (first count copied present : ℕ) → accepted.archives ≡ [] → AreBelow before first
    → first + count ≤ 64 → CountsNames accepted before (names_from first count) copied present → (copied ≡ count) × (present ≡ 0)
unfolding names_from
all_new accepted before first zero copied present none below most counts = counts
all_new accepted before first (suc count) copied present none below most counts =
    by (all_new accepted (before ++ archive_name first ∷ []) (suc first) count counts.1.1.0 counts.1.1.1.0 none (below_next before first below)
    (omega (arith, most)) counts.1.1.1.1.0) counts.0 counts.1.0 counts.1.1.1.1.1
  where
    by : (counts.1.1.0 ≡ count) × (counts.1.1.1.0 ≡ 0) → (new : Bool) → TellsNew accepted before (archive_name first) new
        → (copied ≡ (if new then suc counts.1.1.0 else counts.1.1.0)) × (present ≡ (if new then counts.1.1.1.0 else suc counts.1.1.1.0))
        → (copied ≡ suc count) × (present ≡ 0)
    by later true new both = (both.0 ∙ ap suc later.0, both.1 ∙ later.1)
    by later false there both = absurd (not_there accepted before first none below (omega (arith, most)) there)
