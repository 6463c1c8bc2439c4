-- Lemmas on specs/Steps.antt: the contents of two items that are compared, over what the shelves tell.
use Rattle.std.proofs.Common.{◌≡◌, ℕ, ◌+◌, ◌<◌, ◌≤◌, Bool, true, false, List, [], ◌∷◌, ◌++◌, length, take, drop, get_or, Option, Some, None}
use Rattle.std.proofs.Common.{IfSome, refl, sym, ◌∙◌, ap, subst, add-one, drop-cons}
use Rattle.std.proofs.lemmas.List.{take_more, take_all, take-append-drop}
use Rattle.ferry_disk.specs.Device.{Told, told_files, heard}
use Rattle.ferry_disk.specs.Files.{Files}
use Rattle.ferry_disk.proofs.DeviceLemmas.{told_then, told_with, told_any}
use Rattle.ferry_item.specs.Item.{ItemText}
use Rattle.ferry_item.specs.Stream.{joined}
use Rattle.ferry_item.specs.declared.item.ChunkRef.{ChunkRef}
use Rattle.ferry_repo.specs.Archives.{HoldsContent, RefusesContent, ContentsCome, HoldsJoined, RefusesJoined}
use Rattle.ferry_repo.specs.Fault.{IsOfFiles}
use Rattle.ferry_repo.specs.Opening.{RepoState}
use Rattle.ferry_repo.specs.Whole.{WholeItem, HoldsItem}
use Rattle.ferry_repo.specs.declared.fault.RepoFault.{RepoFault}
use Rattle.ferry_repo.proofs.ContentLemmas.{contents_then, one_contents}
use Rattle.ferry_compare.specs.Fault.{source_fault}
use Rattle.ferry_compare.specs.Steps.{HoldsWhere, HoldsBytes, HoldsSome, GivesContent, RefusesItem}
use Rattle.ferry_compare.specs.Steps.{ComparesItems, ComparesContents, CursorState, HasPassed, Passes}
use Rattle.ferry_compare.proofs.CursorLemmas.{joined_one, passed_none}
use Rattle.ferry_compare.proofs.FaultLemmas.{refuses_item}
use Rattle.ferry_compare.proofs.StepLemmas.{at_first}

-- ---- the chunks of the source, so far

-- the contents of the chunks so far
pub record ReadsChunks (told : Option Told) (repo : RepoState) (chunks : List ChunkRef) : Type 0 where
  pub contents : List (List ℕ)
  pub come : IfSome told (λ t. ContentsCome (told_files t) repo.log repo.keys chunks contents None)

contents_next : (files : Files) (repo : RepoState) (chunks : List ChunkRef) (place : ℕ) (d : ChunkRef) (contents : List (List ℕ)) (content : List ℕ)
    → place < length chunks → ContentsCome files repo.log repo.keys (take place chunks) contents None
    → HoldsContent files repo.log repo.keys (get_or chunks place d) content
    → ContentsCome files repo.log repo.keys (take (place + 1) chunks) (contents ++ (content ∷ [])) None
contents_next files repo chunks place d contents content lt come holds =
    subst (λ (cs : List ChunkRef). ContentsCome files repo.log repo.keys cs (contents ++ (content ∷ [])) None) (sym (take_more chunks place d lt))
    (contents_then files repo.log repo.keys (take place chunks) (get_or chunks place d ∷ []) contents (content ∷ []) None come (holds, tt))

module _ (told later : Option Told) (repo after : RepoState) (chunks : List ChunkRef) (place : ℕ) (d : ChunkRef) (same : heard later ≡ heard told)
    (kept : after ≡ repo) (lt : place < length chunks) where
  come_next : (contents : List (List ℕ)) (content : List ℕ)
      → IfSome told (λ t. ContentsCome (told_files t) repo.log repo.keys (take place chunks) contents None)
      → IfSome later (λ t. HoldsContent (told_files t) after.log after.keys (get_or chunks place d) content)
      → IfSome told (λ t. ContentsCome (told_files t) repo.log repo.keys (take (place + 1) chunks) (contents ++ (content ∷ [])) None)
  come_next contents content come holds =
      told_with told told (λ f. ContentsCome f repo.log repo.keys (take place chunks) contents None)
      (λ f. HoldsContent f repo.log repo.keys (get_or chunks place d) content)
      (λ f. ContentsCome f repo.log repo.keys (take (place + 1) chunks) (contents ++ (content ∷ [])) None) refl
      (λ f c h. contents_next f repo chunks place d contents content lt c h) come
      (at_first told later repo after (λ r f. HoldsContent f r.log r.keys (get_or chunks place d) content) same kept holds)

  pub reads_next : (content : List ℕ) → ReadsChunks told repo (take place chunks)
      → IfSome later (λ t. HoldsContent (told_files t) after.log after.keys (get_or chunks place d) content)
      → ReadsChunks told repo (take (place + 1) chunks)
  reads_next content reads holds =
      record { contents = reads.contents ++ (content ∷ []); come = come_next reads.contents content reads.come holds }

  drop_here : drop place chunks ≡ get_or chunks place d ∷ drop (place + 1) chunks
  drop_here = rw (add-one place) (drop-cons chunks place d lt)

  joined_refused : (files : Files) (contents : List (List ℕ)) (fault : RepoFault) → IsOfFiles fault
      → ContentsCome files repo.log repo.keys (take place chunks) contents None
      → RefusesContent files repo.log repo.keys (get_or chunks place d) fault → RefusesJoined files repo.log repo.keys (Some chunks) fault
  joined_refused files contents fault of_files come refuses = (
    contents ++ [],
    subst (λ (cs : List ChunkRef). ContentsCome files repo.log repo.keys cs (contents ++ []) (Some fault))
        (ap (λ (k : List ChunkRef). take place chunks ++ k) (sym drop_here) ∙ take-append-drop place chunks)
        (contents_then files repo.log repo.keys (take place chunks) (get_or chunks place d ∷ drop (place + 1) chunks) contents [] (Some fault) come
        (of_files, refuses)),
  )

  -- the next content is refused
  pub reads_refused : (contents : List (List ℕ)) (fault : RepoFault)
      → IfSome told (λ t. ContentsCome (told_files t) repo.log repo.keys (take place chunks) contents None)
      → IfSome later (λ t. RefusesContent (told_files t) after.log after.keys (get_or chunks place d) fault)
      → RefusesItem told repo (Some chunks) (source_fault fault)
  reads_refused contents fault come refuses =
      refuses_item told repo (Some chunks) fault (λ of_files.
      told_with told told (λ f. ContentsCome f repo.log repo.keys (take place chunks) contents None)
      (λ f. RefusesContent f repo.log repo.keys (get_or chunks place d) fault) (λ f. RefusesJoined f repo.log repo.keys (Some chunks) fault) refl
      (λ f c r. joined_refused f contents fault of_files c r) come
      (at_first told later repo after (λ r f. RefusesContent f r.log r.keys (get_or chunks place d) fault) same kept refuses))

come_all : (told : Option Told) (repo : RepoState) (chunks : List ChunkRef) (place : ℕ) (contents : List (List ℕ)) → length chunks ≤ place
    → IfSome told (λ t. ContentsCome (told_files t) repo.log repo.keys (take place chunks) contents None)
    → IfSome told (λ t. HoldsJoined (told_files t) repo.log repo.keys (Some chunks) (Some (joined contents)))
come_all told repo chunks place contents le come =
    told_then told (λ f. ContentsCome f repo.log repo.keys (take place chunks) contents None)
    (λ f. HoldsJoined f repo.log repo.keys (Some chunks) (Some (joined contents)))
    (λ f c. (contents, subst (λ (cs : List ChunkRef). ContentsCome f repo.log repo.keys cs contents None) (take_all place chunks le) c, refl)) come

-- all contents were read
pub reads_all : (told : Option Told) (repo : RepoState) (chunks : List ChunkRef) (place : ℕ) → length chunks ≤ place
    → ReadsChunks told repo (take place chunks) → HoldsBytes told repo chunks
reads_all told repo chunks place le reads =
    record { bytes = joined reads.contents; holds = come_all told repo chunks place reads.contents le reads.come }

pub bytes_some : (told : Option Told) (repo : RepoState) (chunks : List ChunkRef) → HoldsBytes told repo chunks → HoldsSome told repo (Some chunks)
bytes_some told repo chunks holds = record { content = Some holds.bytes; holds = holds.holds }

-- the source has content, and the target none
pub none_beside : (told : Option Told) (source : RepoState) (other : Option Told) (target : RepoState) (chunks : List ChunkRef)
    → HoldsBytes told source chunks → ComparesContents told source other target (Some chunks) None false
none_beside told source other target chunks holds = record {
  content = Some holds.bytes;
  holds = holds.holds;
  beside = told_any other (λ f. HoldsWhere false (HoldsJoined f target.log target.keys None (Some holds.bytes))) (λ f no. no);
}

-- a chunk of the target that is refused has no content
pub gives_none : (told : Option Told) (repo : RepoState) (chunk : ChunkRef) (fault : RepoFault) → IsOfFiles fault
    → IfSome told (λ t. RefusesContent (told_files t) repo.log repo.keys chunk fault) → IfSome told (λ t. GivesContent (told_files t) repo chunk None)
gives_none told repo chunk fault of_files refuses =
    told_then told (λ f. RefusesContent f repo.log repo.keys chunk fault) (λ f. GivesContent f repo chunk None)
    (λ f r content holds.
    let same = one_contents f repo.log repo.keys (chunk ∷ []) (content ∷ []) [] None (Some fault) (holds, tt) (of_files, r) in
    let both : None ≡ Some fault = same.1 in
    cc) refuses

-- ---- two items

item_where : (files : Files) (repo : RepoState) (item : ItemText) (whole : WholeItem) (same : Bool) → whole.fields ≡ item.fields
    → HoldsWhere same (HoldsJoined files repo.log repo.keys item.chunks whole.content) → HoldsWhere same (HoldsItem files repo.log repo.keys item whole)
item_where files repo item whole true fields holds = record { fields = fields; content = holds }
item_where files repo item whole false fields holds = λ h. holds h.content

pub items_same : (told : Option Told) (source : RepoState) (other : Option Told) (target : RepoState) (item beside : ItemText) (same : Bool)
    → item.fields ≡ beside.fields → ComparesContents told source other target item.chunks beside.chunks same
    → ComparesItems told source other target item beside same
items_same told source other target item beside same fields compares =
    let whole : WholeItem = record { fields = item.fields; content = compares.content } in
    record {
      whole = whole;
      holds = told_then told (λ f. HoldsJoined f source.log source.keys item.chunks compares.content) (λ f. HoldsItem f source.log source.keys item whole)
          (λ f h. record { fields = refl; content = h }) compares.holds;
      beside = told_then other (λ f. HoldsWhere same (HoldsJoined f target.log target.keys beside.chunks compares.content))
          (λ f. HoldsWhere same (HoldsItem f target.log target.keys beside whole)) (λ f h. item_where f target beside whole same fields h) compares.beside;
    }

pub items_apart : (told : Option Told) (source : RepoState) (other : Option Told) (target : RepoState) (item beside : ItemText)
    → (item.fields ≡ beside.fields → ⊥) → HoldsSome told source item.chunks → ComparesItems told source other target item beside false
items_apart told source other target item beside differ holds =
    let whole : WholeItem = record { fields = item.fields; content = holds.content } in
    record {
      whole = whole;
      holds = told_then told (λ f. HoldsJoined f source.log source.keys item.chunks holds.content) (λ f. HoldsItem f source.log source.keys item whole)
          (λ f h. record { fields = refl; content = h }) holds.holds;
      beside = told_any other (λ f. HoldsWhere false (HoldsItem f target.log target.keys beside whole)) (λ f h. differ h.fields);
    }

-- ---- the chunks of both, so far

-- the contents of the source's chunks so far, and whether the target's content goes along with them
pub record GoesAlong (told : Option Told) (source : RepoState) (other : Option Told) (target : RepoState) (chunks others : List ChunkRef)
    (cursor : CursorState) (same : Bool) : Type 0 where
  pub contents : List (List ℕ)
  pub come : IfSome told (λ t. ContentsCome (told_files t) source.log source.keys chunks contents None)
  pub passes : IfSome other (λ t. Passes same (told_files t) target others cursor (joined contents))

pub along_none : (told : Option Told) (source : RepoState) (other : Option Told) (target : RepoState) (others : List ChunkRef) (cursor : CursorState)
    → (cursor.next ≡ 0) × (cursor.piece ≡ []) × (cursor.at ≡ 0) → GoesAlong told source other target [] others cursor true
along_none told source other target others cursor front = record {
  contents = [];
  come = told_any told (λ f. ContentsCome f source.log source.keys [] [] None) (λ f. tt);
  passes = told_any other (λ f. HasPassed f target others cursor []) (λ f. passed_none f target others cursor front.0 front.1 front.2);
}

-- one content more of the source, and the target's content along it
pub along_next : (told later : Option Told) (source after : RepoState) (other last : Option Told) (target renewed : RepoState)
    (chunks others : List ChunkRef) (place : ℕ) (d : ChunkRef) (cursor moved : CursorState) (content : List ℕ) (same goes : Bool)
    → heard later ≡ heard told → after ≡ source → heard last ≡ heard other → renewed ≡ target → place < length chunks
    → GoesAlong told source other target (take place chunks) others cursor same
    → IfSome later (λ t. HoldsContent (told_files t) after.log after.keys (get_or chunks place d) content)
    → ((done : List ℕ) → IfSome last (λ t. Passes same (told_files t) renewed others cursor done)
    → IfSome last (λ t. Passes goes (told_files t) renewed others moved (done ++ content)))
    → GoesAlong told source other target (take (place + 1) chunks) others moved goes
along_next told later source after other last target renewed chunks others place d cursor moved content same goes alike kept alike_other kept_other lt
    along holds passes = record {
      contents = along.contents ++ (content ∷ []);
      come = come_next told later source after chunks place d alike kept lt along.contents content along.come holds;
      passes = subst (λ (s : List ℕ). IfSome other (λ t. Passes goes (told_files t) target others moved s)) (sym (joined_one along.contents content))
          (at_first other last target renewed (λ r f. Passes goes f r others moved (joined along.contents ++ content)) alike_other kept_other
          (passes (joined along.contents)
          (at_first last other renewed target (λ r f. Passes same f r others cursor (joined along.contents)) (sym alike_other) (sym kept_other)
          along.passes)));
    }

-- both contents were read to their end
pub along_end : (told : Option Told) (source : RepoState) (other last : Option Told) (target renewed : RepoState) (chunks others : List ChunkRef)
    (place : ℕ) (cursor : CursorState) (same ended : Bool) → heard last ≡ heard other → renewed ≡ target → length chunks ≤ place
    → GoesAlong told source other target (take place chunks) others cursor same
    → ((done : List ℕ) → IfSome last (λ t. Passes same (told_files t) renewed others cursor done)
    → IfSome last (λ t. HoldsWhere ended (HoldsJoined (told_files t) renewed.log renewed.keys (Some others) (Some done))))
    → ComparesContents told source other target (Some chunks) (Some others) ended
along_end told source other last target renewed chunks others place cursor same ended alike kept le along ends = record {
  content = Some (joined along.contents);
  holds = come_all told source chunks place along.contents le along.come;
  beside = at_first other last target renewed
      (λ r f. HoldsWhere ended (HoldsJoined f r.log r.keys (Some others) (Some (joined along.contents)))) alike kept
      (ends (joined along.contents)
      (at_first last other renewed target (λ r f. Passes same f r others cursor (joined along.contents)) (sym alike) (sym kept) along.passes));
}
