-- Lemmas on specs/Steps.antt: a content of the target that is passed piece by piece.
use Rattle.std.proofs.Common.{◌≡◌, ℕ, zero, suc, ◌+◌, ◌<◌, List, [], ◌∷◌, ◌++◌, length, take, drop, get_or, Some, None}
use Rattle.std.proofs.Common.{refl, sym, ◌∙◌, ap, subst, arith}
use Rattle.std.proofs.lemmas.List.{append_assoc, append-nil, append_cancel_left, take_more, drop_all}
use Rattle.ferry_disk.specs.Files.{Files}
use Rattle.ferry_item.specs.Stream.{joined}
use Rattle.ferry_item.specs.declared.item.ChunkRef.{ChunkRef}
use Rattle.ferry_repo.specs.Archives.{HoldsContent, ContentsCome, HoldsJoined}
use Rattle.ferry_repo.specs.Opening.{RepoState}
use Rattle.ferry_repo.proofs.ContentLemmas.{one_contents, contents_then}
use Rattle.ferry_compare.specs.Steps.{CursorState, left_in, HasPassed, Strays, GivesContent}

-- ---- lists

pub joined_both : (contents more : List (List ℕ)) → joined (contents ++ more) ≡ joined contents ++ joined more
joined_both [] more = refl
joined_both (c ∷ cs) more = ap (λ (s : List ℕ). c ++ s) (joined_both cs more) ∙ sym (append_assoc c (joined cs) (joined more))

pub joined_one : (contents : List (List ℕ)) (content : List ℕ) → joined (contents ++ (content ∷ [])) ≡ joined contents ++ content
joined_one contents content = joined_both contents (content ∷ []) ∙ ap (λ (s : List ℕ). joined contents ++ s) (append-nil content)

-- bytes of which nothing comes are none
front_none : (a b : List ℕ) → a ++ b ≡ [] → a ≡ []
front_none [] b e = refl
front_none (x ∷ xs) b e = absurd (let no : ⊥ = cc in no)

some_bytes : (a : List ℕ) → 0 < length a → a ≡ [] → ⊥
some_bytes [] lt e = omega arith
some_bytes (x ∷ xs) lt e = let no : ⊥ = cc in no

-- ---- contents of which the first are known

record Behind (files : Files) (repo : RepoState) (chunks : List ChunkRef) (front all : List (List ℕ)) : Type 0 where
  more : List (List ℕ)
  all_are : all ≡ front ++ more
  come : ContentsCome files repo.log repo.keys chunks more None

-- a cursor in front of all chunks, behind so many of them, with this piece in hand
abbrev pub cursor_at : ℕ → List ℕ → ℕ → CursorState
cursor_at next piece at = record { next = next; piece = piece; at = at }

module _ (files : Files) (repo : RepoState) where
  one_held : (chunk : ChunkRef) (a b : List ℕ) → HoldsContent files repo.log repo.keys chunk a → HoldsContent files repo.log repo.keys chunk b → a ≡ b
  one_held chunk a b ha hb =
      let same = one_contents files repo.log repo.keys (chunk ∷ []) (a ∷ []) (b ∷ []) None None (ha, tt) (hb, tt) in
      let both : a ∷ [] ≡ b ∷ [] = same.0 in
      cc

  contents_split : (chunks : List ChunkRef) (n : ℕ) (front all : List (List ℕ)) → ContentsCome files repo.log repo.keys (take n chunks) front None
      → ContentsCome files repo.log repo.keys chunks all None → Behind files repo (drop n chunks) front all
  contents_split chunks zero [] all come whole = record { more = all; all_are = refl; come = whole }
  contents_split chunks zero (f ∷ fs) all come whole = absurd come
  contents_split [] (suc n) [] all come whole = record { more = all; all_are = refl; come = whole }
  contents_split [] (suc n) (f ∷ fs) all come whole = absurd come
  contents_split (c ∷ cs) (suc n) [] all come whole = absurd come
  contents_split (c ∷ cs) (suc n) (f ∷ fs) [] come whole = absurd whole
  contents_split (c ∷ cs) (suc n) (f ∷ fs) (a ∷ ks) come whole =
      let rest = contents_split cs n fs ks come.1 whole.1 in
      record {
        more = rest.more;
        all_are = ap (λ (x : List ℕ). x ∷ ks) (sym (one_held c f a come.0 whole.0)) ∙ ap (λ (xs : List (List ℕ)). f ∷ xs) rest.all_are;
        come = rest.come;
      }

  -- a chunk among those whose contents are there has one
  content_at : (chunks : List ChunkRef) (n : ℕ) (d : ChunkRef) (all : List (List ℕ)) → n < length chunks
      → ContentsCome files repo.log repo.keys chunks all None → (content : List ℕ) × HoldsContent files repo.log repo.keys (get_or chunks n d) content
  content_at [] n d all lt come = absurd (omega arith)
  content_at (c ∷ cs) n d [] lt come = absurd come
  content_at (c ∷ cs) zero d (a ∷ ks) lt come = (a, come.0)
  content_at (c ∷ cs) (suc n) d (a ∷ ks) lt come = content_at cs n d ks (omega arith) come.1

  first_at : (chunks : List ChunkRef) (n : ℕ) (d : ChunkRef) (more : List (List ℕ)) → n < length chunks
      → ContentsCome files repo.log repo.keys (drop n chunks) more None → joined more ≡ []
      → HoldsContent files repo.log repo.keys (get_or chunks n d) []
  first_at [] n d more lt come none = absurd (omega arith)
  first_at (c ∷ cs) zero d [] lt come none = absurd come
  first_at (c ∷ cs) zero d (m ∷ ms) lt come none =
      subst (λ (s : List ℕ). HoldsContent files repo.log repo.keys c s) (front_none m (joined ms) none) come.0
  first_at (c ∷ cs) (suc n) d more lt come none = first_at cs n d more (omega arith) come none

  none_left : (chunks : List ChunkRef) (more : List (List ℕ)) → chunks ≡ [] → ContentsCome files repo.log repo.keys chunks more None → joined more ≡ []
  none_left [] [] e come = refl
  none_left [] (m ∷ ms) e come = absurd come
  none_left (c ∷ cs) more e come = absurd (let no : ⊥ = cc in no)

  -- what is left of a content behind what was passed
  left_of : (others : List ChunkRef) (cursor : CursorState) (done rest : List ℕ) (passed : HasPassed files repo others cursor done)
      → HoldsJoined files repo.log repo.keys (Some others) (Some (done ++ rest))
      → (more : List (List ℕ)) × ContentsCome files repo.log repo.keys (drop cursor.next others) more None × (rest ≡ left_in cursor ++ joined more)
  left_of others cursor done rest passed holds =
      let b = contents_split others cursor.next passed.contents holds.0 passed.come holds.1 in (
        b.more,
        b.come,
        append_cancel_left done rest (left_in cursor ++ joined b.more)
            (holds.2 ∙ (ap joined b.all_are ∙ (joined_both passed.contents b.more ∙ (ap (λ (s : List ℕ). s ++ joined b.more) passed.joined_is
            ∙ append_assoc done (left_in cursor) (joined b.more))))),
      )

  -- ---- what is passed

  pub passed_none : (others : List ChunkRef) (cursor : CursorState) → cursor.next ≡ 0 → cursor.piece ≡ [] → cursor.at ≡ 0
      → HasPassed files repo others cursor []
  passed_none others cursor next piece at = record {
    contents = [];
    come = rw next tt;
    joined_is = rw (piece, at) refl;
  }

  -- one chunk more, behind a piece that was passed
  pub passed_piece : (others : List ChunkRef) (before : CursorState) (d : ChunkRef) (piece done : List ℕ) → left_in before ≡ []
      → before.next < length others → HoldsContent files repo.log repo.keys (get_or others before.next d) piece
      → HasPassed files repo others before done → HasPassed files repo others (cursor_at (before.next + 1) piece 0) (done ++ [])
  passed_piece others before d piece done left lt holds passed = record {
    contents = passed.contents ++ (piece ∷ []);
    come = subst (λ (cs : List ChunkRef). ContentsCome files repo.log repo.keys cs (passed.contents ++ (piece ∷ [])) None)
        (sym (take_more others before.next d lt))
        (contents_then files repo.log repo.keys (take before.next others) (get_or others before.next d ∷ []) passed.contents (piece ∷ []) None passed.come
        (holds, tt));
    joined_is = joined_one passed.contents piece ∙ ap (λ (s : List ℕ). s ++ piece) (passed.joined_is ∙ ap (λ (s : List ℕ). done ++ s) left);
  }

  -- ---- what strays

  pub strays_more : (others : List ChunkRef) (done bytes : List ℕ) → Strays files repo others done → Strays files repo others (done ++ bytes)
  strays_more others done bytes strays rest holds =
      strays (bytes ++ rest) (subst (λ (s : List ℕ). HoldsJoined files repo.log repo.keys (Some others) (Some s)) (append_assoc done bytes rest) holds)

  pub strays_piece : (others : List ChunkRef) (cursor : CursorState) (done bytes : List ℕ)
      → ((rest more : List ℕ) → bytes ++ rest ≡ left_in cursor ++ more → ⊥) → HasPassed files repo others cursor done
      → Strays files repo others (done ++ bytes)
  strays_piece others cursor done bytes differ passed rest holds =
      let left = left_of others cursor done (bytes ++ rest) passed
      (subst (λ (s : List ℕ). HoldsJoined files repo.log repo.keys (Some others) (Some s)) (append_assoc done bytes rest) holds) in
      differ rest (joined left.0) left.2

  -- all chunks were passed, and more bytes were to come
  pub strays_end : (others : List ChunkRef) (cursor : CursorState) (done bytes : List ℕ) → left_in cursor ≡ [] → cursor.next ≡ length others
      → 0 < length bytes → HasPassed files repo others cursor done → Strays files repo others (done ++ bytes)
  strays_end others cursor done bytes left next some passed rest holds =
      let l = left_of others cursor done (bytes ++ rest) passed
      (subst (λ (s : List ℕ). HoldsJoined files repo.log repo.keys (Some others) (Some s)) (append_assoc done bytes rest) holds) in
      let none = none_left (drop cursor.next others) l.0 (drop_all cursor.next others (omega arith)) l.1 in
      let both : bytes ++ rest ≡ [] = l.2 ∙ (ap (λ (s : List ℕ). s ++ joined l.0) left ∙ none) in
      some_bytes bytes some (front_none bytes rest both)

  -- the next chunk is refused
  pub strays_refused : (others : List ChunkRef) (next : ℕ) (d : ChunkRef) (done : List ℕ) → next < length others
      → GivesContent files repo (get_or others next d) None → Strays files repo others done
  strays_refused others next d done lt none rest holds =
      let c = content_at others next d holds.0 lt holds.1 in none c.0 c.1

  -- ---- the end

  nil_more : (done : List ℕ) → done ≡ done ++ []
  nil_more done = sym (append-nil done)

  -- some bytes are left of the piece
  pub goes_on_piece : (others : List ChunkRef) (cursor : CursorState) (done : List ℕ) → 0 < length (left_in cursor)
      → HasPassed files repo others cursor done → HoldsJoined files repo.log repo.keys (Some others) (Some done) → ⊥
  goes_on_piece others cursor done some passed holds =
      let l = left_of others cursor done [] passed
      (subst (λ (s : List ℕ). HoldsJoined files repo.log repo.keys (Some others) (Some s)) (nil_more done) holds) in
      some_bytes (left_in cursor) some (front_none (left_in cursor) (joined l.0) (sym l.2))

  -- the next chunk has some bytes, or is refused
  pub goes_on_chunk : (others : List ChunkRef) (next : ℕ) (d : ChunkRef) (done : List ℕ) → next < length others
      → (HoldsContent files repo.log repo.keys (get_or others next d) [] → ⊥) → HasPassed files repo others (cursor_at next [] 0) (done ++ [])
      → HoldsJoined files repo.log repo.keys (Some others) (Some done) → ⊥
  goes_on_chunk others next d done lt some passed holds =
      let l = left_of others (cursor_at next [] 0) (done ++ []) [] passed
      (subst (λ (s : List ℕ). HoldsJoined files repo.log repo.keys (Some others) (Some s)) (nil_more done ∙ nil_more (done ++ [])) holds) in
      some (first_at others next d l.0 lt l.1 (sym l.2))
