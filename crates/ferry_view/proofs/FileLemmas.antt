-- Lemmas on specs/Items.antt and specs/Steps.antt: the file of a path, and its content.
use Rattle.std.proofs.Common.{◌≡◌, ℕ, ◌+◌, ◌<◌, Bool, true, false, ◌&&◌, if◌then◌else◌, List, [], ◌∷◌, ◌++◌, length, take, drop, get_or}
use Rattle.std.proofs.Common.{◌⊎◌, zero, suc, Option, Some, None, is_some, unwrap_or, refl, sym, ◌∙◌, ap, subst, arith, inl, inr, add-one, drop-cons}
use Rattle.std.proofs.lemmas.List.{append_assoc, append-nil, take-append-drop}
use Rattle.ferry_disk.specs.Files.{Files}
use Rattle.ferry_item.specs.Item.{ItemText}
use Rattle.ferry_item.specs.Stream.{joined}
use Rattle.ferry_item.specs.declared.item.ChunkRef.{ChunkRef}
use Rattle.ferry_log.specs.State.{FitsFiles}
use Rattle.ferry_repo.specs.Archives.{HoldsContent, RefusesContent, ContentsCome}
use Rattle.ferry_repo.specs.Fault.{IsOfFiles}
use Rattle.ferry_repo.specs.Opening.{RepoState}
use Rattle.ferry_repo.specs.Walk.{WalkState, IsToCome}
use Rattle.ferry_repo.specs.Whole.{WholeItem, HoldsItem, WholesCome, Reading, ReadsArchive}
use Rattle.ferry_repo.specs.declared.fault.RepoFault.{RepoFault}
use Rattle.ferry_repo.proofs.ContentLemmas.{some_contents, contents_then}
use Rattle.ferry_repo.proofs.WalkLawLemmas.{some_to_come}
use Rattle.ferry_repo.proofs.WholeLemmas.{some_wholes}
use Rattle.ferry_view.specs.Items.{is_file, file_at, IsContentOf, IsFile, IsFileText, RefusesFile, items_shown}
use Rattle.ferry_view.specs.Output.{IsOfArchive}
use Rattle.ferry_view.specs.Steps.{Begins, RefusesBegin, FindsFile, FindsNone, EndsBefore, ReachesEnd}
use Rattle.ferry_view.specs.Steps.{ContentsShown, AllContents, SomeContents, EndsBehind, EndsFile}
use Rattle.ferry_view.specs.declared.fault.ViewFault.{ViewFault}
use Rattle.ferry_view.specs.declared.fault.ViewFault.TheVariants as View
use Rattle.ferry_view.proofs.WalkLemmas.{begin_comes, begin_refuses, free_refuses, some_text}

-- ---- the file of a path

pub file_none : (path : List ℕ) → file_at path [] ≡ []
unfolding file_at
file_none path = refl

pub file_here : (path : List ℕ) (item : ItemText) (items : List ItemText) → is_file path item ≡ true → file_at path (item ∷ items) ≡ item ∷ []
unfolding file_at
file_here path item items e = rw e refl

pub file_other : (path : List ℕ) (item : ItemText) (items : List ItemText) → is_file path item ≡ false → file_at path (item ∷ items) ≡ file_at path items
unfolding file_at
file_other path item items e = rw e refl

step_over : (path : List ℕ) (item : ItemText) (items : List ItemText) (b : Bool) → is_file path item ≡ b → file_at path (item ∷ items) ≡ []
    → (is_file path item ≡ false) × (file_at path items ≡ [])
step_over path item items true e none =
    absurd (let some : item ∷ [] ≡ [] = sym (file_here path item items e) ∙ none in let no : ⊥ = cc in no)
step_over path item items false e none = (e, sym (file_other path item items e) ∙ none)

-- where no item is the file, it is the file among those behind them
pub file_behind : (path : List ℕ) (done more : List ItemText) → file_at path done ≡ [] → file_at path (done ++ more) ≡ file_at path more
file_behind path [] more none = refl
file_behind path (i ∷ is) more none =
    let over = step_over path i is (is_file path i) refl none in
    file_other path i (is ++ more) over.0 ∙ file_behind path is more over.1

pub file_not_yet : (path : List ℕ) (done : List ItemText) (item : ItemText) → file_at path done ≡ [] → is_file path item ≡ false
    → file_at path (done ++ (item ∷ [])) ≡ []
file_not_yet path done item none e = file_behind path done (item ∷ []) none ∙ (file_other path item [] e ∙ file_none path)

file_found : (path : List ℕ) (done : List ItemText) (item : ItemText) (more : List ItemText) → file_at path done ≡ [] → is_file path item ≡ true
    → file_at path ((done ++ (item ∷ [])) ++ more) ≡ item ∷ []
file_found path done item more none e =
    ap (file_at path) (append_assoc done (item ∷ []) more) ∙ (file_behind path done (item ∷ more) none ∙ file_here path item more e)

-- what the chunks of an item say, where they are answered for a path
pub chunks_some : (b : Bool) (c : Option (List ChunkRef)) (chunks : List ChunkRef) → Some chunks ≡ (if b then c else None)
    → ((is_some c && b) ≡ true) × (c ≡ Some chunks)
chunks_some true None chunks e = absurd (let no : ⊥ = cc in no)
chunks_some true (Some cs) chunks e = (refl, sym e)
chunks_some false c chunks e = absurd (let no : ⊥ = cc in no)

pub chunks_none : (b : Bool) (c : Option (List ChunkRef)) → None ≡ (if b then c else None) → (is_some c && b) ≡ false
chunks_none true None e = refl
chunks_none true (Some cs) e = absurd (let no : ⊥ = cc in no)
chunks_none false None e = refl
chunks_none false (Some cs) e = refl

-- ---- contents

joined_both : (contents more : List (List ℕ)) → joined (contents ++ more) ≡ joined contents ++ joined more
joined_both [] more = refl
joined_both (c ∷ cs) more = ap (λ (s : List ℕ). c ++ s) (joined_both cs more) ∙ sym (append_assoc c (joined cs) (joined more))

pub joined_one : (contents : List (List ℕ)) (content : List ℕ) → joined (contents ++ (content ∷ [])) ≡ joined contents ++ content
joined_one contents content = joined_both contents (content ∷ []) ∙ ap (λ (s : List ℕ). joined contents ++ s) (append-nil content)

take_next : (chunks : List ChunkRef) (place : ℕ) (d : ChunkRef) → place < length chunks
    → take (suc place) chunks ≡ take place chunks ++ get_or chunks place d ∷ []
take_next [] place d lt = absurd (omega arith)
take_next (c ∷ cs) zero d lt = refl
take_next (c ∷ cs) (suc place) d lt = ap (λ k. c ∷ k) (take_next cs place d (omega arith))

take_more : (chunks : List ChunkRef) (place : ℕ) (d : ChunkRef) → place < length chunks
    → take (place + 1) chunks ≡ take place chunks ++ get_or chunks place d ∷ []
take_more chunks place d lt = rw (add-one place) (take_next chunks place d lt)

-- one more content is there
pub contents_next : (files : Files) (repo : RepoState) (chunks : List ChunkRef) (place : ℕ) (d : ChunkRef) (contents : List (List ℕ)) (content : List ℕ)
    → place < length chunks → ContentsCome files repo.log repo.keys (take place chunks) contents None
    → HoldsContent files repo.log repo.keys (get_or chunks place d) content
    → ContentsCome files repo.log repo.keys (take (place + 1) chunks) (contents ++ (content ∷ [])) None
contents_next files repo chunks place d contents content lt come holds =
    subst (λ (cs : List ChunkRef). ContentsCome files repo.log repo.keys cs (contents ++ (content ∷ [])) None) (sym (take_more chunks place d lt))
    (contents_then files repo.log repo.keys (take place chunks) (get_or chunks place d ∷ []) contents (content ∷ []) None come (holds, tt))

-- behind the contents that are there more come, up to some end
pub contents_more : (files : Files) (repo : RepoState) (chunks : List ChunkRef) (place : ℕ) (contents : List (List ℕ)) → FitsFiles files repo.log
    → ContentsCome files repo.log repo.keys (take place chunks) contents None
    → (more : List ℕ) × SomeContents files repo chunks (joined contents ++ more)
contents_more files repo chunks place contents fits come =
    let m = some_contents files repo.log repo.keys fits (drop place chunks) in (
      joined m.contents,
      (
        m.end,
        record {
          contents = contents ++ m.contents;
          come = subst (λ (cs : List ChunkRef). ContentsCome files repo.log repo.keys cs (contents ++ m.contents) m.end) (take-append-drop place chunks)
              (contents_then files repo.log repo.keys (take place chunks) (drop place chunks) contents m.contents m.end come m.come);
          joined_is = sym (joined_both contents m.contents);
        },
      ),
    )

drop_next : (chunks : List ChunkRef) (place : ℕ) (d : ChunkRef) → place < length chunks
    → drop place chunks ≡ get_or chunks place d ∷ drop (place + 1) chunks
drop_next chunks place d lt = rw (add-one place) (drop-cons chunks place d lt)

-- the next content is refused, behind those that are there
pub contents_refused : (files : Files) (repo : RepoState) (chunks : List ChunkRef) (place : ℕ) (d : ChunkRef) (contents : List (List ℕ)) (fault : RepoFault)
    → place < length chunks → ContentsCome files repo.log repo.keys (take place chunks) contents None
    → RefusesContent files repo.log repo.keys (get_or chunks place d) fault → IsOfFiles fault
    → ContentsShown files repo chunks (Some fault) (joined contents)
contents_refused files repo chunks place d contents fault lt come refuses of_files = record {
  contents = contents ++ [];
  come = subst (λ (cs : List ChunkRef). ContentsCome files repo.log repo.keys cs (contents ++ []) (Some fault))
      (ap (λ (k : List ChunkRef). take place chunks ++ k) (sym (drop_next chunks place d lt)) ∙ take-append-drop place chunks)
      (contents_then files repo.log repo.keys (take place chunks) (get_or chunks place d ∷ drop (place + 1) chunks) contents [] (Some fault) come
      (of_files, refuses));
  joined_is = sym (ap joined (append-nil contents));
}

-- ---- what is shown of a file

-- what an archive reads with the content of a file that was found, behind which its stream has this end
file_reading : (files : Files) (repo : RepoState) (name path : List ℕ) (walk now : WalkState) (chunks : List ChunkRef) (b : Begins files repo name walk)
    (f : FindsFile files repo walk path chunks now) (more : List ItemText) (ends : Option RepoFault) (reading : Reading)
    → IsToCome files repo.log repo.keys now more ends → reading.archive ≡ b.archive → reading.items ≡ (f.done ++ (f.item ∷ [])) ++ more
    → WholesCome files repo.log repo.keys (f.item ∷ []) ends reading.wholes reading.end
    → ReadsArchive (file_at path) files repo.log repo.keys b.named.id reading
file_reading files repo name path walk now chunks b f more ends reading come archive_is items_are wholes = record {
  record_is = rw archive_is b.record_is;
  ends = ends;
  comes = rw (archive_is, items_are)
      (begin_comes files repo name walk b ((f.done ++ (f.item ∷ [])) ++ more) ends (f.answers.leads more ends come));
  contents = subst (λ (is : List ItemText). WholesCome files repo.log repo.keys is ends reading.wholes reading.end)
      (sym (ap (file_at path) items_are ∙ file_found path f.done f.item more f.before f.is)) wholes;
}

chunks_of : (files : Files) (repo : RepoState) (path : List ℕ) (walk now : WalkState) (chunks : List ChunkRef)
    (f : FindsFile files repo walk path chunks now) → unwrap_or f.item.chunks [] ≡ chunks
chunks_of files repo path walk now chunks f = ap (λ (c : Option (List ChunkRef)). unwrap_or c []) f.chunks_are

-- a text with contents of the file, up to some end
pub file_text : (files : Files) (repo : RepoState) (name path : List ℕ) (walk now : WalkState) (chunks : List ChunkRef) (text : List ℕ)
    → FitsFiles files repo.log → Begins files repo name walk → FindsFile files repo walk path chunks now → SomeContents files repo chunks text
    → IsFileText files repo name path text
file_text files repo name path walk now chunks text fits b f shown =
    let m = some_to_come files repo.log repo.keys now fits in
    let items = (f.done ++ (f.item ∷ [])) ++ m.0 in
    let w = some_wholes files repo.log repo.keys fits (f.item ∷ []) m.1.0 in
    let reading : Reading = record { archive = b.archive; items = items; wholes = w.wholes; end = w.end } in
    items_shown reading text
    (record {
      named = b.named;
      named_is = b.named_is;
      reads = file_reading files repo name path walk now chunks b f m.0 m.1.0 reading m.1.1 refl refl w.come;
    })
    (subst (λ (is : List ItemText). IsContentOf files repo is text) (sym (file_found path f.done f.item m.0 f.before f.is)) (
      shown.1.contents,
      (
        shown.0,
        subst (λ (cs : List ChunkRef). ContentsCome files repo.log repo.keys cs shown.1.contents shown.0)
            (sym (chunks_of files repo path walk now chunks f)) shown.1.come,
        shown.1.joined_is,
      ),
    ))

holds_file : (files : Files) (repo : RepoState) (path : List ℕ) (walk now : WalkState) (chunks : List ChunkRef) (text : List ℕ)
    (f : FindsFile files repo walk path chunks now) → AllContents files repo chunks text
    → HoldsItem files repo.log repo.keys f.item (record { fields = f.item.fields; content = Some text })
holds_file files repo path walk now chunks text f shown = record {
  fields = refl;
  content = rw f.chunks_are (shown.contents, shown.come, shown.joined_is);
}

-- the content of the file, in an archive that reads to its end
pub file_of : (files : Files) (repo : RepoState) (name path : List ℕ) (walk now : WalkState) (chunks : List ChunkRef) (text : List ℕ)
    → Begins files repo name walk → FindsFile files repo walk path chunks now → AllContents files repo chunks text → ReachesEnd files repo now
    → IsFile files repo name path text
file_of files repo name path walk now chunks text b f shown reaches =
    let whole : WholeItem = record { fields = f.item.fields; content = Some text } in
    let reading : Reading = record { archive = b.archive; items = (f.done ++ (f.item ∷ [])) ++ reaches.0; wholes = whole ∷ []; end = None } in
    record {
      reading = reading;
      reads = record {
        named = b.named;
        named_is = b.named_is;
        reads = file_reading files repo name path walk now chunks b f reaches.0 None reading reaches.1 refl refl
            (holds_file files repo path walk now chunks text f shown, refl);
      };
      whole = refl;
      file = whole;
      file_is = refl;
      content = refl;
    }

-- ---- no file

-- what an archive reads in which no item is the file
none_reading : (files : Files) (repo : RepoState) (name path : List ℕ) (walk : WalkState) (b : Begins files repo name walk) (end : Option RepoFault)
    (none : FindsNone files repo walk path end)
    → ReadsArchive (file_at path) files repo.log repo.keys b.named.id (record { archive = b.archive; items = none.items; wholes = []; end = end })
none_reading files repo name path walk b end none = record {
  record_is = b.record_is;
  ends = end;
  comes = begin_comes files repo name walk b none.items end none.come;
  contents = subst (λ (is : List ItemText). WholesCome files repo.log repo.keys is end [] end) (sym none.none) refl;
}

-- where a walk comes to no file there is no content
pub none_text : (files : Files) (repo : RepoState) (name path : List ℕ) (walk : WalkState) (end : Option RepoFault) → Begins files repo name walk
    → FindsNone files repo walk path end → IsFileText files repo name path []
none_text files repo name path walk end b none =
    items_shown (record { archive = b.archive; items = none.items; wholes = []; end = end }) []
    (record { named = b.named; named_is = b.named_is; reads = none_reading files repo name path walk b end none })
    (subst (λ (is : List ItemText). IsContentOf files repo is []) (sym none.none) refl)

-- where it is refused before it comes to the file
pub before_text : (files : Files) (repo : RepoState) (name path : List ℕ) (walk : WalkState) (fault : ViewFault) → IsOfArchive fault
    → Begins files repo name walk → EndsBefore files repo walk path fault → IsFileText files repo name path []
before_text files repo name path walk (View.Repo fault) of b ends = none_text files repo name path walk (Some fault) b (ends of)
before_text files repo name path walk View.NotFound of b ends = absurd ends
before_text files repo name path walk View.Output of b ends = absurd ends
before_text files repo name path walk View.Memory of b ends = absurd of

-- ---- refusals

pub begin_refuses_file : (files : Files) (repo : RepoState) (name path : List ℕ) (fault : ViewFault) → RefusesBegin files repo name fault
    → RefusesFile files repo name path fault
begin_refuses_file files repo name path (View.Repo fault) refuses = begin_refuses (file_at path) files repo name fault refuses
begin_refuses_file files repo name path View.NotFound refuses = inl refuses
begin_refuses_file files repo name path View.Output refuses = absurd refuses
begin_refuses_file files repo name path View.Memory refuses = tt

pub lacks_file : (files : Files) (repo : RepoState) (name path : List ℕ) (walk : WalkState) → Begins files repo name walk
    → FindsNone files repo walk path None → RefusesFile files repo name path View.NotFound
lacks_file files repo name path walk b none = inr (record {
  reading = record { archive = b.archive; items = none.items; wholes = []; end = None };
  reads = record { named = b.named; named_is = b.named_is; reads = none_reading files repo name path walk b None none };
  whole = refl;
  none = none.none;
})

pub before_refuses : (files : Files) (repo : RepoState) (name path : List ℕ) (walk : WalkState) (fault : ViewFault) → Begins files repo name walk
    → EndsBefore files repo walk path fault → RefusesFile files repo name path fault
before_refuses files repo name path walk (View.Repo fault) b ends =
    free_refuses (file_at path) files repo name fault b.named b.named_is
    (λ of_files. let none = ends of_files in
    (record { archive = b.archive; items = none.items; wholes = []; end = Some fault }, none_reading files repo name path walk b (Some fault) none, refl))
before_refuses files repo name path walk View.NotFound b ends = absurd ends
before_refuses files repo name path walk View.Output b ends = absurd ends
before_refuses files repo name path walk View.Memory b ends = tt

contents_end : (files : Files) (repo : RepoState) (name path : List ℕ) (walk now : WalkState) (chunks : List ChunkRef) (fault : RepoFault)
    → FitsFiles files repo.log → (b : Begins files repo name walk) → FindsFile files repo walk path chunks now
    → ((text : List ℕ) × ContentsShown files repo chunks (Some fault) text) ⊎ EndsBehind files repo now chunks fault
    → (reading : Reading) × ReadsArchive (file_at path) files repo.log repo.keys b.named.id reading × (reading.end ≡ Some fault)
contents_end files repo name path walk now chunks fault fits b f (inl shown) =
    let m = some_to_come files repo.log repo.keys now fits in
    let reading : Reading = record { archive = b.archive; items = (f.done ++ (f.item ∷ [])) ++ m.0; wholes = []; end = Some fault } in (
      reading,
      file_reading files repo name path walk now chunks b f m.0 m.1.0 reading m.1.1 refl refl (rw f.chunks_are (shown.1.contents, shown.1.come)),
      refl,
    )
contents_end files repo name path walk now chunks fault fits b f (inr behind) =
    let whole : WholeItem = record { fields = f.item.fields; content = Some behind.text } in
    let reading : Reading =
    record { archive = b.archive; items = (f.done ++ (f.item ∷ [])) ++ behind.items; wholes = whole ∷ []; end = Some fault } in (
      reading,
      file_reading files repo name path walk now chunks b f behind.items (Some fault) reading behind.come refl refl
          (holds_file files repo path walk now chunks behind.text f behind.contents, refl),
      refl,
    )

pub file_refused : (files : Files) (repo : RepoState) (name path : List ℕ) (walk now : WalkState) (chunks : List ChunkRef) (fault : ViewFault)
    → FitsFiles files repo.log → Begins files repo name walk → FindsFile files repo walk path chunks now → EndsFile files repo now chunks fault
    → RefusesFile files repo name path fault
file_refused files repo name path walk now chunks (View.Repo fault) fits b f ends =
    free_refuses (file_at path) files repo name fault b.named b.named_is
    (λ of_files. contents_end files repo name path walk now chunks fault fits b f (ends of_files))
file_refused files repo name path walk now chunks View.NotFound fits b f ends = absurd ends
file_refused files repo name path walk now chunks View.Output fits b f ends = tt
file_refused files repo name path walk now chunks View.Memory fits b f ends = tt

-- ---- some text is shown

shown_of : (files : Files) (repo : RepoState) → FitsFiles files repo.log → (items : List ItemText) → (text : List ℕ) × IsContentOf files repo items text
shown_of files repo fits [] = ([], refl)
shown_of files repo fits (item ∷ items) =
    let m = some_contents files repo.log repo.keys fits (unwrap_or item.chunks []) in
    (joined m.contents, (m.contents, (m.end, m.come, refl)))

pub some_file_text : (files : Files) (repo : RepoState) (name path : List ℕ) → FitsFiles files repo.log
    → (text : List ℕ) × IsFileText files repo name path text
some_file_text files repo name path fits =
    some_text (file_at path) (λ items shown. IsContentOf files repo (file_at path items) shown) files repo name
    (λ items. shown_of files repo fits (file_at path items)) fits
