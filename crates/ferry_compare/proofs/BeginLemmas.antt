-- Lemmas on specs/Steps.antt: where a comparison begins.
use Rattle.std.proofs.Common.{◌≡◌, ℕ, List, [], Option, Some, None, true, get_or, IfSome, IsSome, is_some, option_map, refl, sym, ◌∙◌, ap, subst, arith}
use Rattle.ferry_disk.specs.Device.{Told, told_files, heard}
use Rattle.ferry_disk.specs.Files.{Files}
use Rattle.ferry_disk.proofs.DeviceLemmas.{told_then}
use Rattle.ferry_item.specs.Stream.{no_more_items}
use Rattle.ferry_log.specs.State.{LogState}
use Rattle.ferry_mac.specs.declared.keys.Keys.{Keys}
use Rattle.ferry_manifest.specs.Record.Text.{ArchiveText}
use Rattle.ferry_manifest.specs.declared.manifest.ArchiveRef.{ArchiveRef}
use Rattle.ferry_msgpack.specs.Tree.{Tree}
use Rattle.ferry_repo.specs.Archives.{archive_named, HoldsRecord}
use Rattle.ferry_repo.specs.Fault.{IsOfFiles}
use Rattle.ferry_repo.specs.Opening.{RepoState}
use Rattle.ferry_repo.specs.Walk.{WalkState, begin_walk, FitsWalk}
use Rattle.ferry_repo.specs.Whole.{WholeArchive}
use Rattle.ferry_repo.specs.declared.fault.RepoFault.{RepoFault}
use Rattle.ferry_repo.proofs.ContentLemmas.{one_record, record_apart}
use Rattle.ferry_compare.specs.Compare.{Says, Apart, ReadsSoFar, FitsTold, seen}
use Rattle.ferry_compare.proofs.ReadLemmas.{StandsIn}
use Rattle.ferry_compare.proofs.StepLemmas.{at_last, stands_now}
use Rattle.ferry_compare.specs.Steps.{SideState, Opens, RefusesSide, OpensBeside, time_named, SameHead, KeepsSide}

-- an archive of which the head was read
abbrev pub head_of : List ℕ → Tree → WholeArchive
head_of time fields = record { time = time; fields = fields; items = [] }

pub named_of : {X : Type 0} (o : Option X) → IsSome o → (x : X) × (o ≡ Some x)
named_of None is = absurd (let no : ⊥ = cc in no)
named_of (Some x) is = (x, refl)

same_some : {X : Type 0} (a b : X) (o : Option X) → o ≡ Some a → o ≡ Some b → a ≡ b
same_some a b o ea eb = let both : Some a ≡ Some b = sym ea ∙ eb in cc

fits_front : (files : Files) (log : LogState) (keys : Keys) (id : List ℕ) (ids : List (List ℕ)) → FitsWalk files log keys (begin_walk id ids)
fits_front files log keys id ids = record {
  contents = [];
  hold = tt;
  items = [];
  front = [];
  answered = no_more_items;
  left = [];
  split = refl;
  left_is = refl;
  met = omega arith;
}

module _ (files : Files) (repo : RepoState) (name : List ℕ) where
  begin_at : (named : ArchiveRef) (archive : ArchiveText) (time : List ℕ) (fields : Tree) → archive_named name repo.manifest.archives ≡ Some named
      → HoldsRecord files repo.log repo.keys named.id archive → time ≡ named.time → fields ≡ archive.fields
      → ReadsSoFar files repo name (begin_walk named.id archive.items) (head_of time fields)
  unfolding fits_front
  begin_at named archive time fields named_is record_is time_is fields_is = record {
    named = named;
    named_is = named_is;
    archive = archive;
    record_is = record_is;
    time = time_is;
    fields = fields_is;
    id = refl;
    ids = refl;
    fits = fits_front files repo.log repo.keys named.id archive.items;
    contents = refl;
  }

  -- the source, in front of its stream
  pub begins : (side : SideState) (time : List ℕ) → Opens files repo name side → time_named name repo.manifest.archives ≡ Some time
      → ReadsSoFar files repo name side.walk (head_of time side.archive.fields)
  begins side time opens is =
      let time_is : time ≡ opens.named.time =
      same_some time opens.named.time (time_named name repo.manifest.archives) is (ap (option_map (λ (a : ArchiveRef). a.time)) opens.named_is) in
      subst (λ (w : WalkState). ReadsSoFar files repo name w (head_of time side.archive.fields)) (sym opens.walk_is)
      (begin_at opens.named side.archive time side.archive.fields opens.named_is opens.record_is time_is refl)

  head_apart : (source : RepoState) (side : SideState) (time : List ℕ) (fields : Tree) → Opens files repo name side
      → time_named name source.manifest.archives ≡ Some time → (SameHead source repo name fields side → ⊥) → Apart files repo name (head_of time fields)
  head_apart source side time fields opens is differ whole says more =
      let named = same_some says.named opens.named (archive_named name repo.manifest.archives) says.named_is opens.named_is in
      let archive = one_record files repo.log repo.keys opens.named.id says.archive side.archive
      (subst (λ (n : ArchiveRef). HoldsRecord files repo.log repo.keys n.id says.archive) named says.record_is) opens.record_is in
      differ (
        is ∙ (ap (λ (t : List ℕ). Some t) (sym more.time ∙ says.time) ∙ sym (ap (option_map (λ (a : ArchiveRef). a.time)) says.named_is)),
        sym more.fields ∙ (says.fields ∙ ap (λ (a : ArchiveText). a.fields) archive),
      )

  head_same : (source : RepoState) (side : SideState) (walk : WalkState) (time : List ℕ) (fields : Tree) → Opens files repo name side
      → time_named name source.manifest.archives ≡ Some time → walk ≡ side.walk → SameHead source repo name fields side
      → ReadsSoFar files repo name walk (head_of time fields)
  head_same source side walk time fields opens is walk_is same =
      let time_is : time ≡ opens.named.time =
      same_some time opens.named.time (time_named name source.manifest.archives) is
      (same.0 ∙ ap (option_map (λ (a : ArchiveRef). a.time)) opens.named_is) in
      subst (λ (w : WalkState). ReadsSoFar files repo name w (head_of time fields)) (sym (walk_is ∙ opens.walk_is))
      (begin_at opens.named side.archive time fields opens.named_is opens.record_is time_is same.1)

  -- the target, beside it
  pub begins_beside : (source : RepoState) (found : Option SideState) (walk : Option WalkState) (time : List ℕ) (fields : Tree)
      → OpensBeside files repo name found → time_named name source.manifest.archives ≡ Some time → KeepsSide source repo name fields found walk
      → StandsIn files repo name walk (head_of time fields)
  begins_beside source None None time fields opens is keeps = λ whole says more. opens whole says
  begins_beside source None (Some walk) time fields opens is keeps = absurd keeps
  begins_beside source (Some side) None time fields opens is keeps = head_apart source side time fields opens is keeps
  begins_beside source (Some side) (Some walk) time fields opens is keeps = head_same source side walk time fields opens is keeps.0 keeps.1

  -- ---- refusals

  -- a record that is refused: no archive is whole under the name
  pub side_refused : (fault : RepoFault) → IsOfFiles fault → RefusesSide files repo name fault → (whole : WholeArchive) → Says files repo name whole → ⊥
  side_refused fault of_files refuses whole says =
      let named = same_some says.named refuses.0 (archive_named name repo.manifest.archives) says.named_is refuses.1 in
      record_apart files repo.log repo.keys refuses.0.id says.archive fault
      (subst (λ (n : ArchiveRef). HoldsRecord files repo.log repo.keys n.id says.archive) named says.record_is) of_files refuses.2

-- ---- both

pub begins_both : (told later : Option Told) (source after : RepoState) (other last : Option Told) (target renewed : RepoState) (name : List ℕ)
    (side : SideState) (found : Option SideState) (walk : Option WalkState) → IsSome (archive_named name source.manifest.archives)
    → heard later ≡ heard told → after ≡ source → heard last ≡ heard other → renewed ≡ target
    → IfSome told (λ t. Opens (told_files t) source name side) → IfSome other (λ t. OpensBeside (told_files t) target name found)
    → KeepsSide after renewed name side.archive.fields found walk
    → FitsTold later after last renewed (seen last renewed) (record { name = name; walk = side.walk; other = walk; matched = [] })
begins_both told later source after other last target renewed name side found walk there alike kept other_alike other_kept opens beside keeps =
    let named = named_of (archive_named name source.manifest.archives) there in
    let time = named.0.time in
    let is : time_named name source.manifest.archives ≡ Some time = ap (option_map (λ (a : ArchiveRef). a.time)) named.1 in
    let front = head_of time side.archive.fields in
    let first = subst (λ (r : RepoState). KeepsSide r renewed name side.archive.fields found walk) kept keeps in
    let both = subst (λ (r : RepoState). KeepsSide source r name side.archive.fields found walk) other_kept first in
    record {
      front = front;
      read = at_last told later source after (λ r f. ReadsSoFar f r name side.walk front) alike kept
          (told_then told (λ f. Opens f source name side) (λ f. ReadsSoFar f source name side.walk front) (λ f o. begins f source name side time o is) opens);
      beside = stands_now last renewed name walk front (at_last other last target renewed (λ r f. StandsIn f r name walk front) other_alike other_kept
          (told_then other (λ f. OpensBeside f target name found) (λ f. StandsIn f target name walk front)
          (λ f o. begins_beside f target name source found walk time side.archive.fields o is both) beside));
      matched = tt;
    }

-- ---- names

-- the archive at the place of a name is one
pub place_some : (name : List ℕ) (archives : List ArchiveRef) (found : Option ℕ)
    → IfSome found (λ place. (d : ArchiveRef) → archive_named name archives ≡ Some (get_or archives place d)) → is_some found ≡ true
    → IsSome (archive_named name archives)
place_some name archives None named e = absurd (let no : ⊥ = cc in no)
place_some name archives (Some place) named e = subst IsSome (sym (named (record { name = []; id = []; time = [] }))) refl
