-- Lemmas on contents that a store knows: nothing is put of them.
use Rattle.std.proofs.Common.{◌≡◌, ◌*◌, ℕ, false, List, [], ◌∷◌, map, length, Option}
use Rattle.std.proofs.Common.{Some, Ok, inr, refl, sym, ◌∙◌, ap, arith}
use Rattle.std.specs.List.{AllByRecursion}
use Rattle.ferry_blob.specs.Blob.{content_id}
use Rattle.ferry_disk.specs.Act.{History}
use Rattle.ferry_disk.specs.Device.{Told}
use Rattle.ferry_item.specs.declared.item.ChunkRef.{ChunkRef}
use Rattle.ferry_mac.specs.declared.keys.Keys.{Keys}
use Rattle.ferry_rechunk.specs.Cut.{cut}
use Rattle.ferry_repo.specs.Noted.{piece_under}
use Rattle.ferry_repo.specs.Opening.{RepoState, repo_view}
use Rattle.ferry_store.specs.Adding.{IsAnswered, id_under}
use Rattle.ferry_store.specs.declared.store.Store.{Store}
use Rattle.ferry_piece.proofs.AddedLemmas.{add_gathers}
use Rattle.ferry_piece.proofs.FewLemmas.{begun_none}
use Rattle.ferry_piece.proofs.GatherLemmas.{gathers_here, gathers_then, rest_here, stands_here}
use Rattle.ferry_piece.proofs.WorkLemmas.{works_none}
use Rattle.ferry_piece.specs.Adding.{AddsOn}
use Rattle.ferry_piece.specs.Gather.{Gathers, KeepsStanding, chunks_of}
use Rattle.ferry_piece.specs.Piece.{CountsOn}
use Rattle.ferry_piece.specs.Puts.{Addition, AreOf, Content, IsCheckpoint, Kind, addition, contents_in, put_bytes, put_count}
use Rattle.ferry_piece.specs.declared.piece.PieceWriter.{PieceWriter}
use Rattle.ferry_carry.specs.Copying.{BeginsContent, CopiesContent, KnowsContent}

-- contents of which nothing is put
abbrev pub unput : List (List ℕ) → List Addition
unput contents = map (λ (content : List ℕ). addition Content content false) contents

pub unput_contents : (contents : List (List ℕ)) → contents_in (unput contents) ≡ contents
unput_contents [] = refl
unput_contents (content ∷ contents) = ap (λ (rest : List (List ℕ)). content ∷ rest) (unput_contents contents)

pub unput_of : (contents : List (List ℕ)) → AreOf Content (unput contents)
unput_of [] = tt
unput_of (content ∷ contents) = (refl, unput_of contents)

pub unput_count : (kind : Kind) (contents : List (List ℕ)) → put_count kind (unput contents) ≡ 0
unfolding put_count
unput_count kind [] = refl
unput_count kind (content ∷ contents) = omega (arith, unput_count kind contents)

pub unput_bytes : (kind : Kind) (contents : List (List ℕ)) → put_bytes kind (unput contents) ≡ 0
unfolding put_bytes
unput_bytes kind [] = refl
unput_bytes kind (content ∷ contents) = omega (arith, unput_bytes kind contents)

pub unput_counts : (kind : Kind) (writer : PieceWriter) (contents : List (List ℕ)) → CountsOn kind writer (unput contents) writer
unput_counts kind writer contents = record {
  put = λ range. omega (arith, range, unput_count kind contents);
  bytes = λ range. omega (arith, range, unput_bytes kind contents);
}

-- a content that is answered leaves a store as it is
answered_one : (most : ℕ) (store : Store) (content : List ℕ) (h : History) → IsCheckpoint most → IsAnswered store (id_under store content)
    → Gathers most store (addition Content content false ∷ []) store h h
answered_one most store content h checkpoint is =
    add_gathers most store store Content content false (record { id = id_under store content; new = false }) h h refl
    (record { checkpoint = checkpoint; room = λ new. absurd (is.1 new) })
    (record {
      id = refl;
      new = (λ put. absurd (let never : ⊥ = cc in never), λ new. absurd (is.1 new));
      known = is.0;
      repo = refl;
      opens = λ put. absurd (let never : ⊥ = cc in never);
      accepted = refl;
    }) (λ counts fits. (fits, refl))

answered_all : (most : ℕ) (store : Store) (contents : List (List ℕ)) (h : History) → IsCheckpoint most
    → AllByRecursion (λ (content : List ℕ). IsAnswered store (id_under store content)) contents → Gathers most store (unput contents) store h h
answered_all most store [] h checkpoint all = gathers_here most store h
answered_all most store (content ∷ contents) h checkpoint all =
    gathers_then most store store store (addition Content content false ∷ []) (unput contents) (rest_here store) (rest_here store) h h h
    (answered_one most store content h checkpoint all.0) (answered_all most store contents h checkpoint all.1)

pub answered_adds : {T : Type 0} (most : ℕ) (store : Store) (contents : List (List ℕ)) (a : Option Told) (n : ℕ) (x : T) → IsCheckpoint most
    → AllByRecursion (λ (content : List ℕ). IsAnswered store (id_under store content)) contents
    → AddsOn {T = T} most store (unput contents) store a a n n (Ok x)
answered_adds {T} most store contents a n x checkpoint all = record {
  works = works_none (KeepsStanding most store (unput contents)) (λ (_ : T). Gathers most store (unput contents) store) a n x
      (λ h. stands_here most store (unput contents) h) (λ h. answered_all most store contents h checkpoint all);
  last = tt;
  unspent = λ was. was;
  held = tt;
  few = begun_none {T = T} (2 * length (unput contents)) store x;
}

-- the chunks of pieces, by the key that makes their ids
pub pieces_named : (keys : Keys) (pieces : List (List ℕ)) → map (piece_under keys.id_key) pieces ≡ chunks_of keys pieces
unfolding content_id
pieces_named keys pieces = refl

-- what holds of the ids of pieces
pub ids_hold : (P : List ℕ → Type 0) (keys : Keys) (pieces : List (List ℕ)) → AllByRecursion (λ (chunk : ChunkRef). P chunk.id) (chunks_of keys pieces)
    → AllByRecursion (λ (piece : List ℕ). P (content_id keys piece)) pieces
ids_hold P keys [] all = tt
ids_hold P keys (piece ∷ pieces) all = (all.0, ids_hold P keys pieces all.1)

-- a content that is known is copied so
pub known_copied : (told : Option Told) (source : RepoState) (store : Store) (block : ℕ) (chunks copied : List ChunkRef)
    (known : KnowsContent told source store block chunks copied)
    → CopiesContent told source block (repo_view store.repo).keys (Some chunks) (contents_in (unput (cut block known.content))) (Some copied)
known_copied told source store block chunks copied known =
    (known.content, (unput_contents (cut block known.content), (known.copied_are, (known.few, known.holds))))

pub known_begun : (told : Option Told) (source : RepoState) (store : Store) (block : ℕ) (chunks copied : List ChunkRef)
    (known : KnowsContent told source store block chunks copied)
    → BeginsContent told source block (Some chunks) (contents_in (unput (cut block known.content)))
known_begun told source store block chunks copied known = inr (known.content, (unput_contents (cut block known.content), known.holds))

-- a note of what was cut, by another word for the keys and for the length of the pieces
pub cut_noted : (keys keys_now : Keys) (block block_now : ℕ) (content : List ℕ) (copied pieces : List ChunkRef) → keys_now ≡ keys → block_now ≡ block
    → pieces ≡ copied → copied ≡ chunks_of keys (cut block content) → pieces ≡ map (piece_under keys_now.id_key) (cut block_now content)
cut_noted keys keys_now block block_now content copied pieces same is p made = rw (same, is) (p ∙ (made ∙ sym (pieces_named keys (cut block content))))
