-- Lemmas on specs/Whole.antt: items with their contents, and archives, of which one answer holds, and one alone.
use Rattle.std.proofs.Common.{◌≡◌, ◌⊎◌, inl, inr, ℕ, List, [], ◌∷◌, ◌++◌, Option, Some, None, refl, sym, ◌∙◌, ap, subst}
use Rattle.ferry_disk.specs.Files.{Files}
use Rattle.ferry_item.specs.Item.{ItemText}
use Rattle.ferry_log.specs.State.{LogState, FitsFiles}
use Rattle.ferry_mac.specs.declared.keys.Keys.{Keys}
use Rattle.ferry_manifest.specs.Record.Text.{ArchiveText}
use Rattle.ferry_manifest.specs.declared.manifest.ArchiveRef.{ArchiveRef}
use Rattle.ferry_repo.specs.Archives.{archive_named, HoldsRecord, RefusesRecord, HoldsJoined, RefusesJoined}
use Rattle.ferry_repo.specs.Fault.{IsOfFiles}
use Rattle.ferry_repo.specs.Opening.{RepoState}
use Rattle.ferry_repo.specs.Walk.{Comes, item_comes, chunk_comes, chunk_refused, item_faulty, stream_whole, stream_cut}
use Rattle.ferry_repo.specs.Whole.{WholeItem, HoldsItem, WholesCome, Reading, ReadsArchive, RefusesArchive, each_item}
use Rattle.ferry_repo.specs.Whole.{WholeArchive, IsWhole, RefusesWhole, HasWhole}
use Rattle.ferry_repo.specs.declared.fault.RepoFault.{RepoFault}
use Rattle.ferry_repo.specs.declared.secret.Secret.{Secret}
use Rattle.ferry_repo.proofs.ComesLemmas.{whole_comes}
use Rattle.ferry_repo.proofs.ContentLemmas.{some_record, one_record, record_apart, one_record_fault}
use Rattle.ferry_repo.proofs.ContentLemmas.{some_joined, one_joined, joined_apart, one_joined_fault, joined_of_files}
use Rattle.ferry_repo.proofs.LawLemmas.{one_repo}
use Rattle.ferry_repo.proofs.WalkLawLemmas.{some_comes, one_comes}

-- ---- items

-- what comes of these items with their contents
pub record SomeWholes (files : Files) (log : LogState) (keys : Keys) (items : List ItemText) (ends : Option RepoFault) : Type 0 where
  pub wholes : List WholeItem
  pub end : Option RepoFault
  pub come : WholesCome files log keys items ends wholes end

wholes_from : (files : Files) (log : LogState) (keys : Keys) (item : ItemText) (items : List ItemText) (ends : Option RepoFault)
    → ((content : Option (List ℕ)) × HoldsJoined files log keys item.chunks content) ⊎ ((fault : RepoFault) × RefusesJoined files log keys item.chunks fault)
    → SomeWholes files log keys items ends → SomeWholes files log keys (item ∷ items) ends
wholes_from files log keys item items ends (inl holds) later = record {
  wholes = record { fields = item.fields; content = holds.0 } ∷ later.wholes;
  end = later.end;
  come = (record { fields = refl; content = holds.1 }, later.come);
}
wholes_from files log keys item items ends (inr refuses) later = record { wholes = []; end = Some refuses.0; come = refuses.1 }

pub some_wholes : (files : Files) (log : LogState) (keys : Keys) → FitsFiles files log → (items : List ItemText) (ends : Option RepoFault)
    → SomeWholes files log keys items ends
some_wholes files log keys fits [] ends = record { wholes = []; end = ends; come = refl }
some_wholes files log keys fits (item ∷ items) ends =
    wholes_from files log keys item items ends (some_joined files log keys item.chunks fits) (some_wholes files log keys fits items ends)

one_item : (files : Files) (log : LogState) (keys : Keys) (item : ItemText) (a b : WholeItem) → HoldsItem files log keys item a
    → HoldsItem files log keys item b → a ≡ b
one_item files log keys item a b ha hb =
    let fields = ha.fields ∙ sym hb.fields in
    let content = one_joined files log keys item.chunks a.content b.content ha.content hb.content in
    rw (fields, content) refl

one_wholes : (files : Files) (log : LogState) (keys : Keys) (items : List ItemText) (ends : Option RepoFault) (a b : List WholeItem)
    (end other : Option RepoFault) → WholesCome files log keys items ends a end → WholesCome files log keys items ends b other
    → (a ≡ b) × (end ≡ other)
one_wholes files log keys [] ends [] [] end other ha hb = (refl, ha ∙ sym hb)
one_wholes files log keys [] ends (a ∷ xs) b end other ha hb = absurd ha
one_wholes files log keys [] ends [] (b ∷ bs) end other ha hb = absurd hb
one_wholes files log keys (i ∷ is) ends [] b None other ha hb = absurd ha
one_wholes files log keys (i ∷ is) ends [] [] (Some f) None ha hb = absurd hb
one_wholes files log keys (i ∷ is) ends [] [] (Some f) (Some g) ha hb =
    (refl, ap (λ (r : RepoFault). Some r) (one_joined_fault files log keys i.chunks f g ha hb))
one_wholes files log keys (i ∷ is) ends [] (b ∷ bs) (Some f) other ha hb = absurd (joined_apart files log keys i.chunks b.content f hb.0.content ha)
one_wholes files log keys (i ∷ is) ends (a ∷ xs) [] end None ha hb = absurd hb
one_wholes files log keys (i ∷ is) ends (a ∷ xs) [] end (Some g) ha hb = absurd (joined_apart files log keys i.chunks a.content g ha.0.content hb)
one_wholes files log keys (i ∷ is) ends (a ∷ xs) (b ∷ bs) end other ha hb =
    let more = one_wholes files log keys is ends xs bs end other ha.1 hb.1 in
    (ap (λ (w : WholeItem). w ∷ xs) (one_item files log keys i a b ha.0 hb.0) ∙ ap (λ (ws : List WholeItem). b ∷ ws) more.0, more.1)

-- where all contents are there, the stream has ended whole
pub whole_end : (files : Files) (log : LogState) (keys : Keys) (items : List ItemText) (ends : Option RepoFault) (wholes : List WholeItem)
    → WholesCome files log keys items ends wholes None → ends ≡ None
whole_end files log keys [] ends [] come = sym come
whole_end files log keys [] ends (w ∷ ws) come = absurd come
whole_end files log keys (i ∷ is) ends [] come = absurd come
whole_end files log keys (i ∷ is) ends (w ∷ ws) come = whole_end files log keys is ends ws come.1

-- items that are whole come in front of what comes of those behind them
pub wholes_then : (files : Files) (log : LogState) (keys : Keys) (items others : List ItemText) (ends : Option RepoFault) (wholes more : List WholeItem)
    (end : Option RepoFault) → WholesCome files log keys items None wholes None → WholesCome files log keys others ends more end
    → WholesCome files log keys (items ++ others) ends (wholes ++ more) end
wholes_then files log keys [] others ends [] more end come later = later
wholes_then files log keys [] others ends (w ∷ ws) more end come later = absurd come
wholes_then files log keys (i ∷ is) others ends [] more end come later = absurd come
wholes_then files log keys (i ∷ is) others ends (w ∷ ws) more end come later =
    (come.0, wholes_then files log keys is others ends ws more end come.1 later)

-- ---- ends

-- an end that says something of the files, where it is a fault
abbrev OfFiles : Option RepoFault → Type 0
OfFiles None = Unit {0}
OfFiles (Some fault) = IsOfFiles fault

comes_of_files : (files : Files) (log : LogState) (keys : Keys) (id ahead : List ℕ) (ids : List (List ℕ)) (items : List ItemText) (end : Option RepoFault)
    → Comes files log keys id ahead ids items end → OfFiles end
comes_of_files files log keys id ahead ids items end (item_comes _ rest _ item later _ front h) = comes_of_files files log keys id rest ids later end h
comes_of_files files log keys id ahead ids items end (chunk_comes _ chunk content others _ _ front holds h) =
    comes_of_files files log keys id (ahead ++ content) others items end h
comes_of_files files log keys id ahead ids items end (chunk_refused _ chunk others fault front of_files refuses) = of_files
comes_of_files files log keys id ahead ids items end (item_faulty _ _ fault front) = tt
comes_of_files files log keys id ahead ids items end stream_whole = tt
comes_of_files files log keys id ahead ids items end (stream_cut _ front some) = tt

wholes_of_files : (files : Files) (log : LogState) (keys : Keys) (items : List ItemText) (ends : Option RepoFault) (wholes : List WholeItem)
    (end : Option RepoFault) → WholesCome files log keys items ends wholes end → OfFiles ends → OfFiles end
wholes_of_files files log keys [] ends [] end come of_files = subst OfFiles (sym come) of_files
wholes_of_files files log keys [] ends (w ∷ ws) end come of_files = absurd come
wholes_of_files files log keys (i ∷ is) ends [] None come of_files = tt
wholes_of_files files log keys (i ∷ is) ends [] (Some fault) come of_files = joined_of_files files log keys i.chunks fault come
wholes_of_files files log keys (i ∷ is) ends (w ∷ ws) end come of_files = wholes_of_files files log keys is ends ws end come.1 of_files

end_of_files : (wanted : List ItemText → List ItemText) (files : Files) (log : LogState) (keys : Keys) (id : List ℕ) (reading : Reading)
    → ReadsArchive wanted files log keys id reading → OfFiles reading.end
end_of_files wanted files log keys id reading reads =
    wholes_of_files files log keys (wanted reading.items) reads.ends reading.wholes reading.end reads.contents
    (comes_of_files files log keys id [] reading.archive.items reading.items reads.ends reads.comes)

-- a fault that ends a reading says something of the files
pub fault_of_files : (wanted : List ItemText → List ItemText) (files : Files) (log : LogState) (keys : Keys) (id : List ℕ) (reading : Reading)
    (fault : RepoFault) → ReadsArchive wanted files log keys id reading → reading.end ≡ Some fault → IsOfFiles fault
fault_of_files wanted files log keys id reading fault reads ends = subst OfFiles ends (end_of_files wanted files log keys id reading reads)

-- ---- archives

abbrev SomeReading : (List ItemText → List ItemText) → Files → LogState → Keys → List ℕ → Type 0
SomeReading wanted files log keys id = ((reading : Reading) × ReadsArchive wanted files log keys id reading)
    ⊎ ((fault : RepoFault) × IsOfFiles fault × RefusesRecord files log keys id fault)

archive_answer : (wanted : List ItemText → List ItemText) (files : Files) (log : LogState) (keys : Keys) (id : List ℕ) → FitsFiles files log
    → ((archive : ArchiveText) × HoldsRecord files log keys id archive) ⊎ ((fault : RepoFault) × IsOfFiles fault × RefusesRecord files log keys id fault)
    → SomeReading wanted files log keys id
archive_answer wanted files log keys id fits (inl holds) =
    let come = some_comes files log keys id [] holds.0.items fits in
    let whole = some_wholes files log keys fits (wanted come.0) come.1.0 in
    inl (
      record { archive = holds.0; items = come.0; wholes = whole.wholes; end = whole.end },
      record { record_is = holds.1; ends = come.1.0; comes = come.1.1; contents = whole.come },
    )
archive_answer wanted files log keys id fits (inr refuses) = inr refuses

-- an archive reads to some end, or its record is refused
pub some_archive : (wanted : List ItemText → List ItemText) (files : Files) (log : LogState) (keys : Keys) (id : List ℕ) → FitsFiles files log
    → ((reading : Reading) × ReadsArchive wanted files log keys id reading)
    ⊎ ((fault : RepoFault) × IsOfFiles fault × RefusesRecord files log keys id fault)
some_archive wanted files log keys id fits = archive_answer wanted files log keys id fits (some_record files log keys id fits)

one_reading : (wanted : List ItemText → List ItemText) (files : Files) (log : LogState) (keys : Keys) (id : List ℕ) (archive found : ArchiveText)
    (items others : List ItemText) (wholes more : List WholeItem) (end other stream over : Option RepoFault) → archive ≡ found
    → Comes files log keys id [] archive.items items stream → Comes files log keys id [] found.items others over
    → WholesCome files log keys (wanted items) stream wholes end → WholesCome files log keys (wanted others) over more other
    → (items ≡ others) × (wholes ≡ more) × (end ≡ other)
one_reading wanted files log keys id archive found items others wholes more end other stream over same comes come whole moreover =
    let both = one_comes files log keys id [] archive.items items others stream over comes
    (subst (λ (a : ArchiveText). Comes files log keys id [] a.items others over) (sym same) come) in
    let rest = one_wholes files log keys (wanted items) stream wholes more end other whole
    (subst (λ (s : Option RepoFault). WholesCome files log keys (wanted items) s more other) (sym both.1)
    (subst (λ (is : List ItemText). WholesCome files log keys (wanted is) over more other) (sym both.0) moreover)) in
    (both.0, rest.0, rest.1)

pub one_archive : (wanted : List ItemText → List ItemText) (files : Files) (log : LogState) (keys : Keys) (id : List ℕ) (a b : Reading)
    → ReadsArchive wanted files log keys id a → ReadsArchive wanted files log keys id b → a ≡ b
one_archive wanted files log keys id a b ha hb =
    let archive = one_record files log keys id a.archive b.archive ha.record_is hb.record_is in
    let rest = one_reading wanted files log keys id a.archive b.archive a.items b.items a.wholes b.wholes a.end b.end ha.ends hb.ends archive
    ha.comes hb.comes ha.contents hb.contents in
    rw (archive, rest.0, rest.1, rest.2) refl

pub archive_apart : (wanted : List ItemText → List ItemText) (files : Files) (log : LogState) (keys : Keys) (id : List ℕ) (reading : Reading)
    (fault : RepoFault) → ReadsArchive wanted files log keys id reading → IsOfFiles fault → RefusesRecord files log keys id fault → ⊥
archive_apart wanted files log keys id reading fault reads of_files refuses =
    record_apart files log keys id reading.archive fault reads.record_is of_files refuses

pub one_archive_fault : (wanted : List ItemText → List ItemText) (files : Files) (log : LogState) (keys : Keys) (id : List ℕ) (f g : RepoFault)
    → IsOfFiles f → IsOfFiles g → RefusesArchive wanted files log keys id f → RefusesArchive wanted files log keys id g → f ≡ g
one_archive_fault wanted files log keys id f g of_f of_g (inl rf) (inl rg) = one_record_fault files log keys id f g of_f of_g rf rg
one_archive_fault wanted files log keys id f g of_f of_g (inl rf) (inr hg) = absurd (archive_apart wanted files log keys id hg.0 f hg.1 of_f rf)
one_archive_fault wanted files log keys id f g of_f of_g (inr hf) (inl rg) = absurd (archive_apart wanted files log keys id hf.0 g hf.1 of_g rg)
one_archive_fault wanted files log keys id f g of_f of_g (inr hf) (inr hg) =
    let same = one_archive wanted files log keys id hf.0 hg.0 hf.1 hg.1 in
    let both : Some f ≡ Some g = sym hf.2 ∙ ap (λ (r : Reading). r.end) same ∙ hg.2 in
    cc

-- ---- whole archives

-- an archive that reads to its end with all its contents is whole
pub reads_whole : (files : Files) (log : LogState) (keys : Keys) (archives : List ArchiveRef) (name : List ℕ) (named : ArchiveRef) (reading : Reading)
    → archive_named name archives ≡ Some named → ReadsArchive each_item files log keys named.id reading → reading.end ≡ None
    → IsWhole files log keys archives name (record { time = named.time; fields = reading.archive.fields; items = reading.wholes })
reads_whole files log keys archives name named reading is reads whole =
    let contents = subst (λ (e : Option RepoFault). WholesCome files log keys reading.items reads.ends reading.wholes e) whole reads.contents in
    let ends = whole_end files log keys reading.items reads.ends reading.wholes contents in
    record {
      named = named;
      named_is = is;
      archive = reading.archive;
      record_is = reads.record_is;
      items = reading.items;
      stream = (whole_comes files log keys named.id reading.archive.items reading.items).0
          (subst (λ (e : Option RepoFault). Comes files log keys named.id [] reading.archive.items reading.items e) ends reads.comes);
      contents = subst (λ (e : Option RepoFault). WholesCome files log keys reading.items e reading.wholes None) ends contents;
      time = refl;
      fields = refl;
    }

-- what is whole reads to its end
abbrev whole_reading : {files : Files} {log : LogState} {keys : Keys} {archives : List ArchiveRef} {name : List ℕ} {whole : WholeArchive}
    → IsWhole files log keys archives name whole → Reading
whole_reading {whole = whole} is = record { archive = is.archive; items = is.items; wholes = whole.items; end = None }

whole_reads : (files : Files) (log : LogState) (keys : Keys) (archives : List ArchiveRef) (name : List ℕ) (whole : WholeArchive)
    (is : IsWhole files log keys archives name whole) → ReadsArchive each_item files log keys is.named.id (whole_reading is)
whole_reads files log keys archives name whole is = record {
  record_is = is.record_is;
  ends = None;
  comes = (whole_comes files log keys is.named.id is.archive.items is.items).1 is.stream;
  contents = is.contents;
}

read_or : (files : Files) (log : LogState) (keys : Keys) (archives : List ArchiveRef) (name : List ℕ) (named : ArchiveRef) (reading : Reading)
    (end : Option RepoFault) → archive_named name archives ≡ Some named → ReadsArchive each_item files log keys named.id reading → reading.end ≡ end
    → ((whole : WholeArchive) × IsWhole files log keys archives name whole)
    ⊎ ((fault : RepoFault) × IsOfFiles fault × RefusesWhole files log keys archives name fault)
read_or files log keys archives name named reading None is reads ends = inl (_, reads_whole files log keys archives name named reading is reads ends)
read_or files log keys archives name named reading (Some fault) is reads ends =
    inr (
      fault,
      subst OfFiles ends (end_of_files each_item files log keys named.id reading reads),
      record { named = named; named_is = is; refused = inr (reading, reads, ends) },
    )

whole_or : (files : Files) (log : LogState) (keys : Keys) (archives : List ArchiveRef) (name : List ℕ) (named : ArchiveRef)
    → archive_named name archives ≡ Some named
    → ((reading : Reading) × ReadsArchive each_item files log keys named.id reading)
    ⊎ ((fault : RepoFault) × IsOfFiles fault × RefusesRecord files log keys named.id fault)
    → ((whole : WholeArchive) × IsWhole files log keys archives name whole)
    ⊎ ((fault : RepoFault) × IsOfFiles fault × RefusesWhole files log keys archives name fault)
whole_or files log keys archives name named is (inl read) = read_or files log keys archives name named read.0 read.0.end is read.1 refl
whole_or files log keys archives name named is (inr refuses) =
    inr (refuses.0, refuses.1, record { named = named; named_is = is; refused = inl refuses.2 })

-- an archive of the manifest is whole, or is refused for a cause
pub some_whole : (files : Files) (log : LogState) (keys : Keys) (archives : List ArchiveRef) (name : List ℕ) (named : ArchiveRef) → FitsFiles files log
    → archive_named name archives ≡ Some named
    → ((whole : WholeArchive) × IsWhole files log keys archives name whole)
    ⊎ ((fault : RepoFault) × IsOfFiles fault × RefusesWhole files log keys archives name fault)
some_whole files log keys archives name named fits is =
    whole_or files log keys archives name named is (some_archive each_item files log keys named.id fits)

one_named : (archives : List ArchiveRef) (name : List ℕ) (a b : ArchiveRef) → archive_named name archives ≡ Some a → archive_named name archives ≡ Some b
    → a ≡ b
one_named archives name a b ha hb = let both : Some a ≡ Some b = sym ha ∙ hb in cc

pub one_whole : (files : Files) (log : LogState) (keys : Keys) (archives : List ArchiveRef) (name : List ℕ) (a b : WholeArchive)
    → IsWhole files log keys archives name a → IsWhole files log keys archives name b → a ≡ b
one_whole files log keys archives name a b ha hb =
    let named = one_named archives name ha.named hb.named ha.named_is hb.named_is in
    let same = one_archive each_item files log keys ha.named.id (whole_reading ha) (whole_reading hb) (whole_reads files log keys archives name a ha)
    (subst (λ (n : ArchiveRef). ReadsArchive each_item files log keys n.id (whole_reading hb)) (sym named) (whole_reads files log keys archives name b hb)) in
    let time = ha.time ∙ ap (λ (n : ArchiveRef). n.time) named ∙ sym hb.time in
    let fields = ha.fields ∙ ap (λ (r : Reading). r.archive.fields) same ∙ sym hb.fields in
    let items : a.items ≡ b.items = ap (λ (r : Reading). r.wholes) same in
    rw (time, fields, items) refl

whole_unrefused : (files : Files) (log : LogState) (keys : Keys) (id : List ℕ) (reading : Reading) (fault : RepoFault)
    → ReadsArchive each_item files log keys id reading → reading.end ≡ None → IsOfFiles fault → RefusesArchive each_item files log keys id fault → ⊥
whole_unrefused files log keys id reading fault reads whole of_files (inl refuses) =
    archive_apart each_item files log keys id reading fault reads of_files refuses
whole_unrefused files log keys id reading fault reads whole of_files (inr other) =
    let same = one_archive each_item files log keys id reading other.0 reads other.1 in
    let no : None ≡ Some fault = sym whole ∙ ap (λ (r : Reading). r.end) same ∙ other.2 in
    cc

pub whole_apart : (files : Files) (log : LogState) (keys : Keys) (archives : List ArchiveRef) (name : List ℕ) (whole : WholeArchive) (fault : RepoFault)
    → IsWhole files log keys archives name whole → IsOfFiles fault → RefusesWhole files log keys archives name fault → ⊥
whole_apart files log keys archives name whole fault is of_files refuses =
    let named = one_named archives name refuses.named is.named refuses.named_is is.named_is in
    whole_unrefused files log keys is.named.id (whole_reading is) fault (whole_reads files log keys archives name whole is) refl of_files
    (subst (λ (n : ArchiveRef). RefusesArchive each_item files log keys n.id fault) named refuses.refused)

pub one_whole_fault : (files : Files) (log : LogState) (keys : Keys) (archives : List ArchiveRef) (name : List ℕ) (f g : RepoFault) → IsOfFiles f
    → IsOfFiles g → RefusesWhole files log keys archives name f → RefusesWhole files log keys archives name g → f ≡ g
one_whole_fault files log keys archives name f g of_f of_g hf hg =
    let named = one_named archives name hg.named hf.named hg.named_is hf.named_is in
    one_archive_fault each_item files log keys hf.named.id f g of_f of_g hf.refused
    (subst (λ (n : ArchiveRef). RefusesArchive each_item files log keys n.id g) named hg.refused)

-- a name has one whole archive in files
pub one_view : (files : Files) (secret : Secret) (name : List ℕ) (a b : WholeArchive) → HasWhole files secret name a → HasWhole files secret name b
    → a ≡ b
one_view files secret name a b ha hb =
    let same = one_repo files secret hb.repo ha.repo hb.opens ha.opens in
    one_whole files ha.repo.log ha.repo.keys ha.repo.manifest.archives name a b ha.is
    (subst (λ (r : RepoState). IsWhole files r.log r.keys r.manifest.archives name b) same hb.is)
