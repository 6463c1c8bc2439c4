-- Lemmas on specs/Compare.antt: an archive that was read so far, one item more, its end, and what is certain of it then.
use Rattle.std.proofs.Common.{◌≡◌, inr, ℕ, List, [], ◌∷◌, ◌++◌, Option, Some, None, refl, sym, ◌∙◌, ap, subst}
use Rattle.std.proofs.lemmas.List.{append_assoc, append-nil, append_cancel_left}
use Rattle.ferry_disk.specs.Files.{Files}
use Rattle.ferry_item.specs.Item.{ItemText}
use Rattle.ferry_log.specs.State.{LogState, FitsFiles}
use Rattle.ferry_mac.specs.declared.keys.Keys.{Keys}
use Rattle.ferry_manifest.specs.Record.Text.{ArchiveText}
use Rattle.ferry_manifest.specs.declared.manifest.ArchiveRef.{ArchiveRef}
use Rattle.ferry_repo.specs.Archives.{archive_named, HoldsRecord, RefusesJoined}
use Rattle.ferry_repo.specs.Opening.{RepoState}
use Rattle.ferry_repo.specs.Walk.{Comes, WalkState, IsToCome}
use Rattle.ferry_repo.specs.Whole.{WholeItem, HoldsItem, WholesCome, Reading, WholeArchive, RefusesWhole}
use Rattle.ferry_repo.specs.declared.fault.RepoFault.{RepoFault}
use Rattle.ferry_repo.proofs.ComesLemmas.{whole_comes}
use Rattle.ferry_repo.proofs.ContentLemmas.{one_record, one_joined}
use Rattle.ferry_repo.proofs.WalkLawLemmas.{some_to_come, one_comes}
use Rattle.ferry_repo.proofs.WholeLemmas.{wholes_then}
use Rattle.ferry_compare.specs.Compare.{Says, Extends, Apart, ReadsSoFar}
use Rattle.ferry_compare.specs.Steps.{Goes, Lacks, MovesBeside, EndsBeside}
use Rattle.ferry_compare.proofs.WalkLemmas.{fits_comes, goes_items}

-- How far the target's archive was read in these files, by its walk; without one it never says what was read of the source.
abbrev pub StandsIn : Files → RepoState → List ℕ → Option WalkState → WholeArchive → Type 0
StandsIn files repo name None front = Apart files repo name front
StandsIn files repo name (Some walk) front = ReadsSoFar files repo name walk front

-- an archive with one item more
abbrev pub with_item : WholeArchive → WholeItem → WholeArchive
with_item front whole = record { time = front.time; fields = front.fields; items = front.items ++ (whole ∷ []) }

same_named : (a b : ArchiveRef) (o : Option ArchiveRef) → o ≡ Some a → o ≡ Some b → a ≡ b
same_named a b o ea eb = let both : Some a ≡ Some b = sym ea ∙ eb in cc

one_item : (files : Files) (log : LogState) (keys : Keys) (item : ItemText) (a b : WholeItem) → HoldsItem files log keys item a
    → HoldsItem files log keys item b → a ≡ b
one_item files log keys item a b ha hb =
    let fields = ha.fields ∙ sym hb.fields in
    let content = one_joined files log keys item.chunks a.content b.content ha.content hb.content in
    rw (fields, content) refl

-- the contents of items, of which the first are known
record Splits (files : Files) (log : LogState) (keys : Keys) (behind : List ItemText) (front wholes : List WholeItem) : Type 0 where
  more : List WholeItem
  wholes_are : wholes ≡ front ++ more
  come : WholesCome files log keys behind None more None

wholes_split : (files : Files) (log : LogState) (keys : Keys) (items behind : List ItemText) (front wholes : List WholeItem)
    → WholesCome files log keys items None front None → WholesCome files log keys (items ++ behind) None wholes None
    → Splits files log keys behind front wholes
wholes_split files log keys [] behind [] wholes come all = record { more = wholes; wholes_are = refl; come = all }
wholes_split files log keys [] behind (w ∷ ws) wholes come all = absurd come
wholes_split files log keys (i ∷ is) behind [] wholes come all = absurd come
wholes_split files log keys (i ∷ is) behind (w ∷ ws) [] come all = absurd all
wholes_split files log keys (i ∷ is) behind (w ∷ ws) (v ∷ vs) come all =
    let rest = wholes_split files log keys is behind ws vs come.1 all.1 in
    let same = one_item files log keys i w v come.0 all.0 in
    record {
      more = rest.more;
      wholes_are = ap (λ (x : WholeItem). x ∷ vs) (sym same) ∙ ap (λ (xs : List WholeItem). w ∷ xs) rest.wholes_are;
      come = rest.come;
    }

-- ---- what an archive that is whole says, where a front of it was read

-- what is to come from where the walk stands is whole, and makes the rest of the archive
record IsRest (files : Files) (repo : RepoState) (walk : WalkState) (front whole : WholeArchive) : Type 0 where
  items : List ItemText
  come : IsToCome files repo.log repo.keys walk items None
  behind : List WholeItem
  wholes_are : whole.items ≡ front.items ++ behind
  contents : WholesCome files repo.log repo.keys items None behind None
  time : whole.time ≡ front.time
  fields : whole.fields ≡ front.fields

module _ (files : Files) (repo : RepoState) (name : List ℕ) where
  rest_of : (walk : WalkState) (front whole : WholeArchive) → FitsFiles files repo.log → ReadsSoFar files repo name walk front
      → Says files repo name whole → IsRest files repo walk front whole
  rest_of walk front whole fits reads is =
      let log = repo.log in
      let keys = repo.keys in
      let named = same_named is.named reads.named (archive_named name repo.manifest.archives) is.named_is reads.named_is in
      let archive = one_record files log keys reads.named.id is.archive reads.archive
      (subst (λ (n : ArchiveRef). HoldsRecord files log keys n.id is.archive) named is.record_is) reads.record_is in
      let m = some_to_come files log keys walk fits in
      let comes = subst (λ (is : List (List ℕ)). Comes files log keys walk.id [] is (reads.fits.items ++ m.0) m.1.0) reads.ids
      (fits_comes files log keys walk reads.fits m.0 m.1.0 m.1.1) in
      let stream = subst (λ (a : ArchiveText). Comes files log keys walk.id [] a.items is.items None) archive
      ((whole_comes files log keys walk.id is.archive.items is.items).1 is.stream) in
      let same = one_comes files log keys walk.id [] reads.archive.items is.items (reads.fits.items ++ m.0) None m.1.0 stream comes in
      let split = wholes_split files log keys reads.fits.items m.0 front.items whole.items reads.contents
      (subst (λ (is : List ItemText). WholesCome files log keys is None whole.items None) same.0 is.contents) in
      record {
        items = m.0;
        come = subst (λ (e : Option RepoFault). IsToCome files log keys walk m.0 e) (sym same.1) m.1.1;
        behind = split.more;
        wholes_are = split.wholes_are;
        contents = split.come;
        time = is.time ∙ (ap (λ (n : ArchiveRef). n.time) named ∙ sym reads.time);
        fields = is.fields ∙ (ap (λ (a : ArchiveText). a.fields) archive ∙ sym reads.fields);
      }

  -- an archive that begins with more items begins with those in front
  extends_front : (front whole : WholeArchive) (item : WholeItem) → Extends (with_item front item) whole → Extends front whole
  extends_front front whole item more = record {
    time = more.time;
    fields = more.fields;
    behind = item ∷ more.behind;
    items = more.items ∙ append_assoc front.items (item ∷ []) more.behind;
  }

  -- ---- one item more

  pub goes_on : (from now : WalkState) (front : WholeArchive) (item : ItemText) (whole : WholeItem) → FitsFiles files repo.log
      → ReadsSoFar files repo name from front → Goes files repo from item now → HoldsItem files repo.log repo.keys item whole
      → ReadsSoFar files repo name now (with_item front whole)
  goes_on from now front item whole fits reads goes holds = record {
    named = reads.named;
    named_is = reads.named_is;
    archive = reads.archive;
    record_is = reads.record_is;
    time = reads.time;
    fields = reads.fields;
    id = goes.id ∙ reads.id;
    ids = goes.ids ∙ reads.ids;
    fits = goes.fits;
    contents = subst (λ (is : List ItemText). WholesCome files repo.log repo.keys is None (front.items ++ (whole ∷ [])) None)
        (sym (goes_items files repo from now item reads.fits goes fits))
        (wholes_then files repo.log repo.keys reads.fits.items (item ∷ []) None front.items (whole ∷ []) None reads.contents (holds, refl));
  }

  -- the rest of a whole archive that says this next
  next_is : (walk : WalkState) (item : WholeItem) (items : List ItemText) (behind more : List WholeItem)
      → behind ≡ item ∷ more → Lacks files repo walk item → IsToCome files repo.log repo.keys walk items None
      → WholesCome files repo.log repo.keys items None behind None → ⊥
  next_is walk item [] [] more e lacks come contents = let no : ⊥ = cc in no
  next_is walk item [] (b ∷ bs) more e lacks come contents = contents
  next_is walk item (i ∷ is) [] more e lacks come contents = contents
  next_is walk item (i ∷ is) (b ∷ bs) more e lacks come contents =
      let same : b ≡ item = cc in lacks i is come (subst (λ (w : WholeItem). HoldsItem files repo.log repo.keys i w) same contents.0)

  lacks_apart : (walk : WalkState) (front : WholeArchive) (item : WholeItem) → FitsFiles files repo.log → ReadsSoFar files repo name walk front
      → Lacks files repo walk item → Apart files repo name (with_item front item)
  lacks_apart walk front item fits reads lacks whole says more =
      let rest = rest_of walk front whole fits reads says in
      let same = append_cancel_left front.items rest.behind (item ∷ more.behind)
      (sym rest.wholes_are ∙ (more.items ∙ append_assoc front.items (item ∷ []) more.behind)) in
      next_is walk item rest.items rest.behind more.behind same lacks rest.come rest.contents

  -- a difference that is certain stays so
  pub apart_on : (front : WholeArchive) (item : WholeItem) → Apart files repo name front → Apart files repo name (with_item front item)
  apart_on front item apart whole says more = apart whole says (extends_front front whole item more)

  -- the target was moved along an item of the source
  pub moves_beside : (from : WalkState) (now : Option WalkState) (front : WholeArchive) (item : WholeItem) → FitsFiles files repo.log
      → ReadsSoFar files repo name from front → MovesBeside files repo (Some from) item now → StandsIn files repo name now (with_item front item)
  moves_beside from None front item fits reads moves = lacks_apart from front item fits reads moves
  moves_beside from (Some now) front item fits reads moves = goes_on from now front moves.0 item fits reads moves.1 moves.2

  -- ---- the end

  pub ends_whole : (walk : WalkState) (front : WholeArchive) → ReadsSoFar files repo name walk front
      → IsToCome files repo.log repo.keys walk [] None → Says files repo name front
  ends_whole walk front reads come = record {
    named = reads.named;
    named_is = reads.named_is;
    archive = reads.archive;
    record_is = reads.record_is;
    items = reads.fits.items;
    stream = (whole_comes files repo.log repo.keys walk.id reads.archive.items reads.fits.items).0
        (subst (λ (is : List (List ℕ)). Comes files repo.log repo.keys walk.id [] is reads.fits.items None) reads.ids
        (subst (λ (is : List ItemText). Comes files repo.log repo.keys walk.id [] walk.ids is None) (append-nil reads.fits.items)
        (fits_comes files repo.log repo.keys walk reads.fits [] None come)));
    contents = reads.contents;
    time = reads.time;
    fields = reads.fields;
  }

  -- nothing is behind
  rest_none : (walk : WalkState) (items : List ItemText) (behind : List WholeItem) → behind ≡ [] → IsToCome files repo.log repo.keys walk items None
      → WholesCome files repo.log repo.keys items None behind None → IsToCome files repo.log repo.keys walk [] None
  rest_none walk [] behind e come contents = come
  rest_none walk (i ∷ is) [] e come contents = absurd contents
  rest_none walk (i ∷ is) (b ∷ bs) e come contents = absurd (let no : ⊥ = cc in no)

  pub apart_says : (front : WholeArchive) → Apart files repo name front → Says files repo name front → ⊥
  apart_says front apart says =
      apart front says (record { time = refl; fields = refl; behind = []; items = sym (append-nil front.items) })

  pub goes_beyond : (walk : WalkState) (front : WholeArchive) → FitsFiles files repo.log → ReadsSoFar files repo name walk front
      → (EndsBeside files repo (Some walk) → ⊥) → Says files repo name front → ⊥
  goes_beyond walk front fits reads on says =
      let rest = rest_of walk front front fits reads says in
      let none = append_cancel_left front.items rest.behind [] (sym rest.wholes_are ∙ sym (append-nil front.items)) in
      on (rest_none walk rest.items rest.behind none rest.come rest.contents)

  -- ---- refusals

  reads_up_to : (walk : WalkState) (front : WholeArchive) (reads : ReadsSoFar files repo name walk front) (items : List ItemText)
      (ends : Option RepoFault) (fault : RepoFault) → IsToCome files repo.log repo.keys walk items ends
      → WholesCome files repo.log repo.keys items ends [] (Some fault)
      → RefusesWhole files repo.log repo.keys repo.manifest.archives name fault
  reads_up_to walk front reads items ends fault come contents =
      let all : List ItemText = reads.fits.items ++ items in
      let reading : Reading = record { archive = reads.archive; items = all; wholes = front.items ++ []; end = Some fault } in
      record {
        named = reads.named;
        named_is = reads.named_is;
        refused = inr (
          reading,
          record {
            record_is = reads.record_is;
            ends = ends;
            comes = subst (λ (i : List ℕ). Comes files repo.log repo.keys i [] reads.archive.items all ends) reads.id
                (subst (λ (is : List (List ℕ)). Comes files repo.log repo.keys walk.id [] is all ends) reads.ids
                (fits_comes files repo.log repo.keys walk reads.fits items ends come));
            contents = wholes_then files repo.log repo.keys reads.fits.items items ends front.items [] (Some fault) reads.contents contents;
          },
          refl,
        );
      }

  -- the next item is refused
  pub stream_refused : (walk : WalkState) (front : WholeArchive) (fault : RepoFault) → ReadsSoFar files repo name walk front
      → IsToCome files repo.log repo.keys walk [] (Some fault) → RefusesWhole files repo.log repo.keys repo.manifest.archives name fault
  stream_refused walk front fault reads come = reads_up_to walk front reads [] (Some fault) fault come refl

  -- the content of the next item is refused
  pub content_refused : (from now : WalkState) (front : WholeArchive) (item : ItemText) (fault : RepoFault) → FitsFiles files repo.log
      → ReadsSoFar files repo name from front → Goes files repo from item now → RefusesJoined files repo.log repo.keys item.chunks fault
      → RefusesWhole files repo.log repo.keys repo.manifest.archives name fault
  content_refused from now front item fault fits reads goes refuses =
      let m = some_to_come files repo.log repo.keys now fits in
      reads_up_to from front reads (item ∷ m.0) m.1.0 fault (goes.leads m.0 m.1.0 m.1.1) refuses
