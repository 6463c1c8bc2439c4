-- Lemmas on specs/Items.antt: of the archive of a name one text is shown, or one refusal holds.
use Rattle.std.proofs.Common.{◌≡◌, ◌⊎◌, inl, inr, ℕ, Bool, ◌&&◌, true, false, List, [], ◌∷◌, Option, Some, None, is_some, unwrap_or, refl, sym, ◌∙◌, ap, subst}
use Rattle.ferry_disk.specs.Files.{Files}
use Rattle.ferry_item.specs.Item.{ItemText}
use Rattle.ferry_item.specs.Stream.{joined}
use Rattle.ferry_item.specs.declared.item.ChunkRef.{ChunkRef}
use Rattle.ferry_log.specs.State.{FitsFiles}
use Rattle.ferry_manifest.specs.declared.manifest.ArchiveRef.{ArchiveRef}
use Rattle.ferry_repo.specs.Archives.{archive_named, RefusesRecord, ContentsCome, HoldsJoined}
use Rattle.ferry_repo.specs.Fault.{IsOfFiles}
use Rattle.ferry_repo.specs.Opening.{RepoState}
use Rattle.ferry_repo.specs.Whole.{WholeItem, WholesCome, Reading, ReadsArchive, RefusesArchive, no_item}
use Rattle.ferry_repo.specs.declared.fault.RepoFault.{RepoFault}
use Rattle.ferry_repo.proofs.ContentLemmas.{one_contents}
use Rattle.ferry_repo.proofs.WholeLemmas.{some_archive, one_archive, archive_apart, fault_of_files}
use Rattle.ferry_view.specs.Items.{ReadsNamed, ReadsUpTo, no_archive, no_record, items_shown, IsItemListing, IsItemText, RefusesItems}
use Rattle.ferry_view.specs.Items.{is_file, file_at, IsContentOf, IsFile, IsFileText, LacksFile, RefusesFile}
use Rattle.ferry_view.specs.Lines.{item_lines}
use Rattle.ferry_view.specs.Output.{IsOfArchive}
use Rattle.ferry_view.specs.declared.fault.ViewFault.{ViewFault}
use Rattle.ferry_view.specs.declared.fault.ViewFault.TheVariants as View
use Rattle.ferry_view.proofs.FileLemmas.{file_here, file_other, file_none}

-- ---- any text

same_named : (repo : RepoState) (name : List ℕ) (a b : ArchiveRef) → archive_named name repo.manifest.archives ≡ Some a
    → archive_named name repo.manifest.archives ≡ Some b → a ≡ b
same_named repo name a b ha hb = let both : Some a ≡ Some b = sym ha ∙ hb in cc

named_apart : (repo : RepoState) (name : List ℕ) (a : ArchiveRef) → archive_named name repo.manifest.archives ≡ None
    → archive_named name repo.manifest.archives ≡ Some a → ⊥
named_apart repo name a none some = let no : None ≡ Some a = sym none ∙ some in cc

same_reading : (wanted : List ItemText → List ItemText) (files : Files) (repo : RepoState) (name : List ℕ) (a b : Reading)
    → ReadsNamed wanted files repo name a → ReadsNamed wanted files repo name b → a ≡ b
same_reading wanted files repo name a b ha hb =
    one_archive wanted files repo.log repo.keys ha.named.id a b ha.reads
    (subst (λ (n : ArchiveRef). ReadsArchive wanted files repo.log repo.keys n.id b) (same_named repo name hb.named ha.named hb.named_is ha.named_is) hb.reads)

reading_apart : (wanted : List ItemText → List ItemText) (files : Files) (repo : RepoState) (name : List ℕ) (reading : Reading) (named : ArchiveRef)
    (fault : RepoFault) → ReadsNamed wanted files repo name reading → archive_named name repo.manifest.archives ≡ Some named → IsOfFiles fault
    → RefusesRecord files repo.log repo.keys named.id fault → ⊥
reading_apart wanted files repo name reading named fault reads is of_files refuses =
    archive_apart wanted files repo.log repo.keys reads.named.id reading fault reads.reads of_files
    (subst (λ (n : ArchiveRef). RefusesRecord files repo.log repo.keys n.id fault) (same_named repo name named reads.named is reads.named_is) refuses)

one_text : (wanted : List ItemText → List ItemText) (IsShown : List ItemText → List ℕ → Type 0) (files : Files) (repo : RepoState) (name a b : List ℕ)
    → ((items : List ItemText) (x y : List ℕ) → IsShown items x → IsShown items y → x ≡ y) → ReadsUpTo wanted IsShown files repo name a
    → ReadsUpTo wanted IsShown files repo name b → a ≡ b
one_text wanted IsShown files repo name a b one (no_archive none) (no_archive again) = refl
one_text wanted IsShown files repo name a b one (no_archive none) (no_record named fault is of_files refuses) = absurd (named_apart repo name named none is)
one_text wanted IsShown files repo name a b one (no_archive none) (items_shown reading text reads shown) =
    absurd (named_apart repo name reads.named none reads.named_is)
one_text wanted IsShown files repo name a b one (no_record named fault is of_files refuses) (no_archive none) = absurd (named_apart repo name named none is)
one_text wanted IsShown files repo name a b one (no_record named fault is of_files refuses) (no_record other lost is2 of_files2 refuses2) = refl
one_text wanted IsShown files repo name a b one (no_record named fault is of_files refuses) (items_shown reading text reads shown) =
    absurd (reading_apart wanted files repo name reading named fault reads is of_files refuses)
one_text wanted IsShown files repo name a b one (items_shown reading text reads shown) (no_archive none) =
    absurd (named_apart repo name reads.named none reads.named_is)
one_text wanted IsShown files repo name a b one (items_shown reading text reads shown) (no_record named fault is of_files refuses) =
    absurd (reading_apart wanted files repo name reading named fault reads is of_files refuses)
one_text wanted IsShown files repo name a b one (items_shown reading text reads shown) (items_shown other more reads2 shown2) =
    one other.items text more
    (subst (λ (r : Reading). IsShown r.items text) (same_reading wanted files repo name reading other reads reads2) shown) shown2

-- an archive that reads to its end isn't refused
unrefused : (wanted : List ItemText → List ItemText) (files : Files) (repo : RepoState) (name : List ℕ) (reading : Reading) (fault : RepoFault)
    → ReadsNamed wanted files repo name reading → reading.end ≡ None → IsOfFiles fault → (named : ArchiveRef)
    → archive_named name repo.manifest.archives ≡ Some named → RefusesArchive wanted files repo.log repo.keys named.id fault → ⊥
unrefused wanted files repo name reading fault reads whole of_files named is (inl refuses) =
    reading_apart wanted files repo name reading named fault reads is of_files refuses
unrefused wanted files repo name reading fault reads whole of_files named is (inr other) =
    let same = same_reading wanted files repo name reading other.0 reads (record { named = named; named_is = is; reads = other.1 }) in
    let no : None ≡ Some fault = sym whole ∙ ap (λ (r : Reading). r.end) same ∙ other.2 in
    cc

-- ---- the listing of items

lines_one : (items : List ItemText) (x y : List ℕ) → x ≡ item_lines items → y ≡ item_lines items → x ≡ y
lines_one items x y hx hy = hx ∙ sym hy

pub one_item_text : (files : Files) (repo : RepoState) (name a b : List ℕ) → IsItemText files repo name a → IsItemText files repo name b → a ≡ b
one_item_text files repo name a b ha hb =
    one_text no_item (λ items shown. shown ≡ item_lines items) files repo name a b lines_one ha hb

pub listing_text : (files : Files) (repo : RepoState) (name text : List ℕ) → IsItemListing files repo name text → IsItemText files repo name text
listing_text files repo name text is = items_shown is.reading text is.reads is.lines

pub listing_apart : (files : Files) (repo : RepoState) (name text : List ℕ) (fault : ViewFault) → IsItemListing files repo name text → IsOfArchive fault
    → RefusesItems files repo name fault → ⊥
listing_apart files repo name text (View.Repo fault) is of_archive refuses =
    unrefused no_item files repo name is.reading fault is.reads is.whole of_archive refuses.0 refuses.1 refuses.2
listing_apart files repo name text View.NotFound is of_archive refuses = named_apart repo name is.reads.named refuses is.reads.named_is
listing_apart files repo name text View.Output is of_archive refuses = of_archive
listing_apart files repo name text View.Memory is of_archive refuses = of_archive

abbrev SomeListing : Files → RepoState → List ℕ → Type 0
SomeListing files repo name = ((text : List ℕ) × IsItemListing files repo name text)
    ⊎ ((fault : ViewFault) × IsOfArchive fault × RefusesItems files repo name fault)

listing_read : (files : Files) (repo : RepoState) (name : List ℕ) (named : ArchiveRef) (reading : Reading) (end : Option RepoFault)
    → archive_named name repo.manifest.archives ≡ Some named → ReadsArchive no_item files repo.log repo.keys named.id reading → reading.end ≡ end
    → SomeListing files repo name
listing_read files repo name named reading None is reads ends =
    inl (item_lines reading.items, record { reading = reading; reads = record { named = named; named_is = is; reads = reads }; whole = ends; lines = refl })
listing_read files repo name named reading (Some fault) is reads ends =
    inr (View.Repo fault, fault_of_files no_item files repo.log repo.keys named.id reading fault reads ends, (named, is, inr (reading, reads, ends)))

listing_by : (files : Files) (repo : RepoState) (name : List ℕ) (named : ArchiveRef) → archive_named name repo.manifest.archives ≡ Some named
    → ((reading : Reading) × ReadsArchive no_item files repo.log repo.keys named.id reading)
    ⊎ ((fault : RepoFault) × IsOfFiles fault × RefusesRecord files repo.log repo.keys named.id fault) → SomeListing files repo name
listing_by files repo name named is (inl read) = listing_read files repo name named read.0 read.0.end is read.1 refl
listing_by files repo name named is (inr refuses) = inr (View.Repo refuses.0, refuses.1, (named, is, inl refuses.2))

listing_found : (files : Files) (repo : RepoState) (name : List ℕ) (found : Option ArchiveRef) → archive_named name repo.manifest.archives ≡ found
    → FitsFiles files repo.log → SomeListing files repo name
listing_found files repo name None is fits = inr (View.NotFound, tt, is)
listing_found files repo name (Some named) is fits =
    listing_by files repo name named is (some_archive no_item files repo.log repo.keys named.id fits)

pub some_listing : (files : Files) (repo : RepoState) (name : List ℕ) → FitsFiles files repo.log
    → ((text : List ℕ) × IsItemListing files repo name text) ⊎ ((fault : ViewFault) × IsOfArchive fault × RefusesItems files repo name fault)
some_listing files repo name fits = listing_found files repo name (archive_named name repo.manifest.archives) refl fits

-- ---- extraction

content_one : (files : Files) (repo : RepoState) (items : List ItemText) (x y : List ℕ) → IsContentOf files repo items x → IsContentOf files repo items y
    → x ≡ y
content_one files repo [] x y hx hy = hx ∙ sym hy
content_one files repo (item ∷ items) x y hx hy =
    let same = one_contents files repo.log repo.keys (unwrap_or item.chunks []) hx.0 hy.0 hx.1.0 hy.1.0 hx.1.1 hy.1.1 in
    hx.1.2 ∙ ap joined same.0 ∙ sym hy.1.2

pub one_file_text : (files : Files) (repo : RepoState) (name path a b : List ℕ) → IsFileText files repo name path a → IsFileText files repo name path b
    → a ≡ b
one_file_text files repo name path a b ha hb =
    one_text (file_at path) (λ items shown. IsContentOf files repo (file_at path items) shown) files repo name a b
    (λ items x y hx hy. content_one files repo (file_at path items) x y hx hy) ha hb

head_of : (path : List ℕ) (i item : ItemText) (is more : List ItemText) (b : Bool) → is_file path i ≡ b → file_at path (i ∷ is) ≡ item ∷ more
    → (file_at path is ≡ item ∷ more → (is_file path item ≡ true) × (more ≡ [])) → (is_file path item ≡ true) × (more ≡ [])
head_of path i item is more true e some later =
    let both : i ∷ [] ≡ item ∷ more = sym (file_here path i is e) ∙ some in
    let same : i ≡ item = cc in
    let rest : [] ≡ more = cc in
    (subst (λ (x : ItemText). is_file path x ≡ true) same e, sym rest)
head_of path i item is more false e some later = later (sym (file_other path i is e) ∙ some)

file_one : (path : List ℕ) (items : List ItemText) (item : ItemText) (more : List ItemText) → file_at path items ≡ item ∷ more
    → (is_file path item ≡ true) × (more ≡ [])
file_one path [] item more some = absurd (let none : [] ≡ item ∷ more = sym (file_none path) ∙ some in let no : ⊥ = cc in no)
file_one path (i ∷ is) item more some = head_of path i item is more (is_file path i) refl some (file_one path is item more)

chunks_there : (c : Option (List ChunkRef)) (b : Bool) → (is_some c && b) ≡ true → (chunks : List ChunkRef) × (c ≡ Some chunks)
chunks_there None b e = absurd (let no : ⊥ = cc in no)
chunks_there (Some chunks) b e = (chunks, refl)

whole_file : (files : Files) (repo : RepoState) (item : ItemText) (ends : Option RepoFault) (wholes : List WholeItem)
    → WholesCome files repo.log repo.keys (item ∷ []) ends wholes None
    → (whole : WholeItem) × (wholes ≡ whole ∷ []) × HoldsJoined files repo.log repo.keys item.chunks whole.content
whole_file files repo item ends [] come = absurd come
whole_file files repo item ends (w ∷ []) come = (w, refl, come.0.content)
whole_file files repo item ends (w ∷ v ∷ ws) come = absurd come.1

content_there : (files : Files) (repo : RepoState) (chunks : List ChunkRef) (content : Option (List ℕ))
    → HoldsJoined files repo.log repo.keys (Some chunks) content → (text : List ℕ) × (content ≡ Some text)
content_there files repo chunks None holds = absurd holds
content_there files repo chunks (Some text) holds = (text, refl)

abbrev SomeFile : Files → RepoState → List ℕ → List ℕ → Type 0
SomeFile files repo name path = ((text : List ℕ) × IsFile files repo name path text)
    ⊎ ((fault : ViewFault) × IsOfArchive fault × RefusesFile files repo name path fault)

file_whole : (files : Files) (repo : RepoState) (name path : List ℕ) (reading : Reading) (file : List ItemText)
    → (reads : ReadsNamed (file_at path) files repo name reading) → reading.end ≡ None → file_at path reading.items ≡ file → SomeFile files repo name path
file_whole files repo name path reading [] reads whole at =
    inr (View.NotFound, tt, inr (record { reading = reading; reads = reads; whole = whole; none = at }))
file_whole files repo name path reading (item ∷ more) reads whole at =
    let one = file_one path reading.items item more at in
    let come = subst (λ (e : Option RepoFault). WholesCome files repo.log repo.keys (item ∷ []) reads.reads.ends reading.wholes e) whole
    (subst (λ (is : List ItemText). WholesCome files repo.log repo.keys is reads.reads.ends reading.wholes reading.end)
    (at ∙ ap (λ (is : List ItemText). item ∷ is) one.1) reads.reads.contents) in
    let file = whole_file files repo item reads.reads.ends reading.wholes come in
    let chunks = chunks_there item.chunks _ one.0 in
    let text = content_there files repo chunks.0 file.0.content
    (subst (λ (c : Option (List ChunkRef)). HoldsJoined files repo.log repo.keys c file.0.content) chunks.1 file.2) in
    inl (text.0, record { reading = reading; reads = reads; whole = whole; file = file.0; file_is = file.1; content = text.1 })

file_read : (files : Files) (repo : RepoState) (name path : List ℕ) (named : ArchiveRef) (reading : Reading) (end : Option RepoFault)
    → archive_named name repo.manifest.archives ≡ Some named → ReadsArchive (file_at path) files repo.log repo.keys named.id reading → reading.end ≡ end
    → SomeFile files repo name path
file_read files repo name path named reading None is reads ends =
    file_whole files repo name path reading (file_at path reading.items) (record { named = named; named_is = is; reads = reads }) ends refl
file_read files repo name path named reading (Some fault) is reads ends =
    inr (View.Repo fault, fault_of_files (file_at path) files repo.log repo.keys named.id reading fault reads ends, (named, is, inr (reading, reads, ends)))

file_by : (files : Files) (repo : RepoState) (name path : List ℕ) (named : ArchiveRef) → archive_named name repo.manifest.archives ≡ Some named
    → ((reading : Reading) × ReadsArchive (file_at path) files repo.log repo.keys named.id reading)
    ⊎ ((fault : RepoFault) × IsOfFiles fault × RefusesRecord files repo.log repo.keys named.id fault) → SomeFile files repo name path
file_by files repo name path named is (inl read) = file_read files repo name path named read.0 read.0.end is read.1 refl
file_by files repo name path named is (inr refuses) = inr (View.Repo refuses.0, refuses.1, (named, is, inl refuses.2))

file_found_or : (files : Files) (repo : RepoState) (name path : List ℕ) (found : Option ArchiveRef) → archive_named name repo.manifest.archives ≡ found
    → FitsFiles files repo.log → SomeFile files repo name path
file_found_or files repo name path None is fits = inr (View.NotFound, tt, inl is)
file_found_or files repo name path (Some named) is fits =
    file_by files repo name path named is (some_archive (file_at path) files repo.log repo.keys named.id fits)

pub some_file : (files : Files) (repo : RepoState) (name path : List ℕ) → FitsFiles files repo.log
    → ((text : List ℕ) × IsFile files repo name path text) ⊎ ((fault : ViewFault) × IsOfArchive fault × RefusesFile files repo name path fault)
some_file files repo name path fits = file_found_or files repo name path (archive_named name repo.manifest.archives) refl fits

lacks_apart : (files : Files) (repo : RepoState) (name path text : List ℕ) → IsFile files repo name path text
    → (archive_named name repo.manifest.archives ≡ None) ⊎ LacksFile files repo name path → ⊥
lacks_apart files repo name path text is (inl none) = named_apart repo name is.reads.named none is.reads.named_is
lacks_apart files repo name path text is (inr lacks) =
    let same = same_reading (file_at path) files repo name is.reading lacks.reading is.reads lacks.reads in
    let none = ap (λ (r : Reading). file_at path r.items) same ∙ lacks.none in
    let come = subst (λ (ns : List ItemText). WholesCome files repo.log repo.keys ns is.reads.reads.ends is.reading.wholes is.reading.end) none
    is.reads.reads.contents in
    subst (λ (ws : List WholeItem). WholesCome files repo.log repo.keys [] is.reads.reads.ends ws is.reading.end) is.file_is come

pub file_apart : (files : Files) (repo : RepoState) (name path text : List ℕ) (fault : ViewFault) → IsFile files repo name path text → IsOfArchive fault
    → RefusesFile files repo name path fault → ⊥
file_apart files repo name path text (View.Repo fault) is of_archive refuses =
    unrefused (file_at path) files repo name is.reading fault is.reads is.whole of_archive refuses.0 refuses.1 refuses.2
file_apart files repo name path text View.NotFound is of_archive refuses = lacks_apart files repo name path text is refuses
file_apart files repo name path text View.Output is of_archive refuses = of_archive
file_apart files repo name path text View.Memory is of_archive refuses = of_archive

content_text : (files : Files) (repo : RepoState) (c : Option (List ChunkRef)) (text : List ℕ) → HoldsJoined files repo.log repo.keys c (Some text)
    → (contents : List (List ℕ)) × ((end : Option RepoFault) × ContentsCome files repo.log repo.keys (unwrap_or c []) contents end × (text ≡ joined contents))
content_text files repo None text holds = absurd holds
content_text files repo (Some chunks) text holds = (holds.0, (None, holds.1, holds.2))

file_text_by : (files : Files) (repo : RepoState) (name path text : List ℕ) (file : List ItemText) (is : IsFile files repo name path text)
    → file_at path is.reading.items ≡ file → IsContentOf files repo file text
file_text_by files repo name path text [] is at =
    let come = subst (λ (ns : List ItemText). WholesCome files repo.log repo.keys ns is.reads.reads.ends is.reading.wholes is.reading.end) at
    is.reads.reads.contents in
    absurd (subst (λ (ws : List WholeItem). WholesCome files repo.log repo.keys [] is.reads.reads.ends ws is.reading.end) is.file_is come)
file_text_by files repo name path text (item ∷ more) is at =
    let come = subst (λ (ns : List ItemText). WholesCome files repo.log repo.keys ns is.reads.reads.ends is.reading.wholes is.reading.end) at
    is.reads.reads.contents in
    let held = subst (λ (ws : List WholeItem). WholesCome files repo.log repo.keys (item ∷ more) is.reads.reads.ends ws is.reading.end) is.file_is come in
    content_text files repo item.chunks text
    (subst (λ (o : Option (List ℕ)). HoldsJoined files repo.log repo.keys item.chunks o) is.content held.0.content)

pub file_whole_text : (files : Files) (repo : RepoState) (name path text : List ℕ) → IsFile files repo name path text
    → IsFileText files repo name path text
file_whole_text files repo name path text is =
    items_shown is.reading text is.reads (file_text_by files repo name path text (file_at path is.reading.items) is refl)
