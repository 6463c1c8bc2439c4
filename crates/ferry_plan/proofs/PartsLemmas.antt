-- Lemmas on specs/Parts.antt: the contents of chunks, taken one behind another, and the pieces that aren't read.
use Rattle.std.proofs.Common.{◌≡◌, ◌≤◌, ◌<◌, ◌-◌, ℕ, List, [], ◌∷◌, ◌++◌, Option, Some, None, Result, Ok, Err, All, IfErr, IfSome, OnOk}
use Rattle.std.proofs.Common.{length, min, take, drop, refl, sym, ◌∙◌, ap, subst, arith}
use Rattle.std.proofs.lemmas.List.Folds.{concat-append}
use Rattle.std.specs.BTreeSet.{BTreeSet}
use Rattle.std.specs.List.{AllByRecursion, concat}
use Rattle.ferry_blob.specs.Blob.{content_id}
use Rattle.ferry_carry.proofs.CopyLemmas.{writes_then}
use Rattle.ferry_carry.proofs.KnownLemmas.{unput, unput_contents}
use Rattle.ferry_carry.proofs.PartsLemmas.{passed_on}
use Rattle.ferry_carry.specs.Copying.{WritesContents, writer_state}
use Rattle.ferry_compare.proofs.StepLemmas.{at_first}
use Rattle.ferry_disk.proofs.DeviceLemmas.{told_any, told_then, told_with}
use Rattle.ferry_disk.specs.Device.{Told, heard, told_files}
use Rattle.ferry_disk.specs.Files.{Files}
use Rattle.ferry_item.specs.declared.item.ChunkRef.{ChunkRef}
use Rattle.ferry_log.specs.State.{LogState}
use Rattle.ferry_mac.specs.declared.keys.Keys.{Keys}
use Rattle.ferry_piece.proofs.PutsLemmas.{contents_append}
use Rattle.ferry_piece.specs.Gather.{chunks_of}
use Rattle.ferry_piece.specs.Piece.{WritesOn}
use Rattle.ferry_piece.specs.Puts.{Addition, Content, contents_in}
use Rattle.ferry_plan.proofs.HeldLemmas.{held_takes}
use Rattle.ferry_plan.proofs.TallyLemmas.{takes_by, takes_then}
use Rattle.ferry_plan.specs.Parts.{TakesChunks}
use Rattle.ferry_plan.specs.Tally.{IsHeld, Takes}
use Rattle.ferry_plan.specs.declared.pieces.Pieces.{Pieces}
use Rattle.ferry_carry.specs.Parts.{StandsBehind}
use Rattle.ferry_repo.proofs.ContentLemmas.{contents_then}
use Rattle.ferry_repo.proofs.LawLemmas.{one_chunk}
use Rattle.ferry_repo.specs.Archives.{ContentsCome, HoldsContent, RefusesJoined}
use Rattle.ferry_repo.specs.Opening.{RepoState}
use Rattle.ferry_repo.specs.declared.fault.RepoFault.{RepoFault}

-- ---- bytes

-- Bytes were taken into pieces.
pub record TakesBytes (target : RepoState) (bytes : List ℕ) (known : BTreeSet (List ℕ)) (pieces : Pieces) (known_now : BTreeSet (List ℕ)) (pieces_now : Pieces)
    : Type 0 where
  pub more : List Addition
  pub takes : Takes Content target.keys target.log known pieces more known_now pieces_now
  pub writes : WritesOn target.keys pieces.cutter pieces.chunks.items bytes (contents_in more) pieces_now.cutter pieces_now.chunks.items

pub bytes_taken : (target : RepoState) (bytes : List ℕ) (known middle now : BTreeSet (List ℕ)) (pieces some last : Pieces) (others : List ℕ)
    → TakesBytes target bytes known pieces middle some → TakesBytes target others middle some now last
    → TakesBytes target (bytes ++ others) known pieces now last
bytes_taken target bytes known middle now pieces some last others p q = record {
  more = p.more ++ q.more;
  takes = takes_then Content target.keys target.log known middle now pieces some last p.more q.more p.takes q.takes;
  writes = subst (λ (ps : List (List ℕ)). WritesOn target.keys pieces.cutter pieces.chunks.items (bytes ++ others) ps last.cutter last.chunks.items)
      (sym (contents_append p.more q.more))
      (writes_then target.keys target.keys pieces.cutter some.cutter last.cutter pieces.chunks.items some.chunks.items last.chunks.items bytes others
      (contents_in p.more) (contents_in q.more) refl p.writes q.writes);
}

-- pieces that are held, behind those that were whole
pub held_passed : (target : RepoState) (known : BTreeSet (List ℕ)) (pieces passed : Pieces) (chunks : List ChunkRef) (wholes : List (List ℕ))
    → length pieces.cutter.piece < pieces.cutter.block → pieces.cutter.piece ≡ [] → All (λ (one : List ℕ). length one ≡ pieces.cutter.block) wholes
    → chunks ≡ chunks_of target.keys wholes → AllByRecursion (λ (one : List ℕ). IsHeld target.log known (content_id target.keys one)) wholes
    → passed.cutter ≡ pieces.cutter → passed.chunks.items ≡ pieces.chunks.items ++ chunks → passed.put ≡ pieces.put → passed.bytes ≡ pieces.bytes
    → TakesBytes target (concat wholes) known pieces known passed
held_passed target known pieces passed chunks wholes room empty full are held cutter items put bytes =
    let on : WritesOn target.keys pieces.cutter pieces.chunks.items (concat wholes) wholes pieces.cutter (pieces.chunks.items ++ chunks) =
    passed_on target.keys pieces.cutter pieces.chunks.items chunks wholes (omega (arith, room)) empty full are in
    record {
      more = unput wholes;
      takes = takes_by Content target.keys target.log known known pieces pieces pieces passed (unput wholes) refl refl put bytes
          (held_takes target.keys target.log known pieces wholes held);
      writes = rw (unput_contents wholes, cutter, items) on;
    }

-- ---- chunks

-- bytes that are the contents of chunks
pub chunks_taken : (target : RepoState) (told : Option Told) (source : RepoState) (refs : List ChunkRef) (contents : List (List ℕ)) (bytes : List ℕ)
    (known now : BTreeSet (List ℕ)) (pieces last : Pieces)
    → IfSome told (λ t. ContentsCome (told_files t) source.log source.keys refs contents None) → concat contents ≡ bytes
    → TakesBytes target bytes known pieces now last → TakesChunks target told source refs known pieces now last
chunks_taken target told source refs contents bytes known now pieces last come is p = (
  p.more,
  (
    p.takes,
    record {
      contents = contents;
      come = come;
      writes = subst (λ (b : List ℕ). WritesOn target.keys pieces.cutter pieces.chunks.items b (contents_in p.more) last.cutter last.chunks.items) (sym is)
          p.writes;
    },
  ),
)

-- chunks behind chunks
pub parts_taken : (target : RepoState) (told later : Option Told) (source after : RepoState) (refs others all : List ChunkRef)
    (known middle now : BTreeSet (List ℕ)) (pieces some last : Pieces) → refs ++ others ≡ all → heard later ≡ heard told → after ≡ source
    → TakesChunks target told source refs known pieces middle some → TakesChunks target later after others middle some now last
    → TakesChunks target told source all known pieces now last
parts_taken target told later source after refs others all known middle now pieces some last is alike kept p q =
    let wrote = p.1.1 in
    let more = q.1.1 in
    subst (λ (cs : List ChunkRef). TakesChunks target told source cs known pieces now last) is (
      p.0 ++ q.0,
      (
        takes_then Content target.keys target.log known middle now pieces some last p.0 q.0 p.1.0 q.1.0,
        record {
          contents = wrote.contents ++ more.contents;
          come = told_with told told (λ f. ContentsCome f source.log source.keys refs wrote.contents None)
              (λ f. ContentsCome f source.log source.keys others more.contents None)
              (λ f. ContentsCome f source.log source.keys (refs ++ others) (wrote.contents ++ more.contents) None) refl
              (λ f first second. contents_then f source.log source.keys refs others wrote.contents more.contents None first second) wrote.come
              (at_first told later source after (λ r f. ContentsCome f r.log r.keys others more.contents None) alike kept more.come);
          writes = subst (λ (b : List ℕ). WritesOn target.keys pieces.cutter pieces.chunks.items b (contents_in (p.0 ++ q.0)) last.cutter last.chunks.items)
              (sym (concat-append wrote.contents more.contents))
              (subst (λ (ps : List (List ℕ)). WritesOn target.keys pieces.cutter pieces.chunks.items (concat wrote.contents ++ concat more.contents) ps
              last.cutter last.chunks.items) (sym (contents_append p.0 q.0))
              (writes_then target.keys target.keys pieces.cutter some.cutter last.cutter pieces.chunks.items some.chunks.items last.chunks.items
              (concat wrote.contents) (concat more.contents) (contents_in p.0) (contents_in q.0) refl wrote.writes more.writes));
        },
      ),
    )

-- ---- what is refused

-- of chunks in front of others
come_wider : (files : Files) (log : LogState) (keys : Keys) (chunks others : List ChunkRef) (contents : List (List ℕ)) (fault : RepoFault)
    → ContentsCome files log keys chunks contents (Some fault) → ContentsCome files log keys (chunks ++ others) contents (Some fault)
come_wider files log keys [] others [] fault come = absurd come
come_wider files log keys [] others (content ∷ contents) fault come = absurd come
come_wider files log keys (chunk ∷ chunks) others [] fault come = come
come_wider files log keys (chunk ∷ chunks) others (content ∷ contents) fault come = (come.0, come_wider files log keys chunks others contents fault come.1)

-- behind chunks that came, and in front of others
pub parts_refused : (told later : Option Told) (source after : RepoState) (refs others rest all : List ChunkRef) (contents : List (List ℕ)) (fault : RepoFault)
    → (refs ++ others) ++ rest ≡ all → heard later ≡ heard told → after ≡ source
    → IfSome told (λ t. ContentsCome (told_files t) source.log source.keys refs contents None)
    → IfSome later (λ t. RefusesJoined (told_files t) after.log after.keys (Some others) fault)
    → IfSome told (λ t. RefusesJoined (told_files t) source.log source.keys (Some all) fault)
parts_refused told later source after refs others rest all contents fault is alike kept come refused =
    subst (λ (cs : List ChunkRef). IfSome told (λ t. RefusesJoined (told_files t) source.log source.keys (Some cs) fault)) is
    (told_with told told (λ f. ContentsCome f source.log source.keys refs contents None) (λ f. RefusesJoined f source.log source.keys (Some others) fault)
    (λ f. RefusesJoined f source.log source.keys (Some ((refs ++ others) ++ rest)) fault) refl
    (λ f first second. (
      contents ++ second.0,
      come_wider f source.log source.keys (refs ++ others) rest (contents ++ second.0) fault
          (contents_then f source.log source.keys refs others contents second.0 (Some fault) first second.1),
    )) come
    (at_first told later source after (λ r f. RefusesJoined f r.log r.keys (Some others) fault) alike kept refused))

pub none_come : (told : Option Told) (source : RepoState) → IfSome told (λ t. ContentsCome (told_files t) source.log source.keys [] [] None)
none_come told source = told_any told (λ f. ContentsCome f source.log source.keys [] [] None) (λ f. tt)

pub ok_map : {T F : Type 0} (P Q : Type 0) (r : Result T F) → (P → Q) → OnOk r P → OnOk r Q
ok_map P Q (Ok x) leads is = leads is
ok_map P Q (Err fault) leads is = tt

pub err_map : {T F : Type 0} (P Q : F → Type 0) (r : Result T F) → ((fault : F) → P fault → Q fault) → IfErr r P → IfErr r Q
err_map P Q (Ok x) leads is = tt
err_map P Q (Err fault) leads is = leads fault is

-- so many last bytes of a content are those of whatever content the chunk has
pub stands_of : (told : Option Told) (source : RepoState) (one : ChunkRef) (left : ℕ) (last bytes : List ℕ)
    → IfSome told (λ t. HoldsContent (told_files t) source.log source.keys one last) → bytes ≡ drop (length last - left) last
    → StandsBehind told source one left bytes
stands_of told source one left last bytes holds is =
    told_then told (λ f. HoldsContent f source.log source.keys one last)
    (λ f. (content : List ℕ) → HoldsContent f source.log source.keys one content → bytes ≡ drop (length content - left) content)
    (λ f h content has. is ∙ ap (λ (b : List ℕ). drop (length b - left) b) (one_chunk f source.log source.keys one.id last content h.holds has.holds)) holds

-- what was written, as bytes that were taken
pub bytes_of : (target : RepoState) (bytes : List ℕ) (known now : BTreeSet (List ℕ)) (pieces last : Pieces)
    → (more : List Addition) × (Takes Content target.keys target.log known pieces more now last
    × WritesOn target.keys pieces.cutter pieces.chunks.items bytes (contents_in more) last.cutter last.chunks.items)
    → TakesBytes target bytes known pieces now last
bytes_of target bytes known now pieces last wrote = record { more = wrote.0; takes = wrote.1.0; writes = wrote.1.1 }

-- no piece is in hand where there is no last one
pub none_in_hand : (piece : List ℕ) → (1 ≤ length piece → ⊥) → piece ≡ []
none_in_hand [] none = refl
none_in_hand (byte ∷ bytes) none = absurd (none (omega arith))
