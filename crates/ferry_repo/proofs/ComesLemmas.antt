-- Lemmas on specs/Walk.antt: what comes without a fault is the stream.
use Rattle.std.proofs.Common.{◌≡◌, ◌↔◌, ℕ, zero, suc, List, [], ◌∷◌, ◌++◌, length, take, drop, Option, None, refl, sym, ◌∙◌, ap, subst, append_assoc, arith}
use Rattle.std.proofs.lemmas.List.{drop_all}
use Rattle.ferry_disk.specs.Files.{Files}
use Rattle.ferry_item.specs.Item.{ItemText}
use Rattle.ferry_item.specs.Stream.{ItemsOf, no_more_items, joined, End, bytes_left, Reads, reads_item, feeds_piece, ends, fails}
use Rattle.ferry_item.proofs.FrontLemmas.{item_more}
use Rattle.ferry_item.proofs.StreamLemmas.{first_item, streams_joined, whole_stream}
use Rattle.ferry_log.specs.State.{LogState}
use Rattle.ferry_mac.specs.declared.keys.Keys.{Keys}
use Rattle.ferry_repo.specs.Walk.{HoldChunks, IsStream, Comes, item_comes, chunk_comes, chunk_refused, item_faulty, stream_whole, stream_cut}
use Rattle.ferry_repo.specs.Walk.{WalkState, IsToCome, FitsWalk}
use Rattle.ferry_repo.specs.declared.fault.RepoFault.{RepoFault}
use Rattle.ferry_repo.specs.declared.walk.Ending.{Ending}
use Rattle.ferry_repo.specs.declared.walk.Ending.TheVariants.{Open, Whole, Cut}
use Rattle.ferry_repo.proofs.WalkLemmas.{at}

-- the chunks that follow hold these contents, and the bytes with them are these items
record Follows (files : Files) (log : LogState) (keys : Keys) (ahead : List ℕ) (ids : List (List ℕ)) (items : List ItemText) : Type 0 where
  contents : List (List ℕ)
  hold : HoldChunks files log keys ids contents
  spelled : ItemsOf (ahead ++ joined contents) items

comes_follows : (files : Files) (log : LogState) (keys : Keys) (id ahead : List ℕ) (ids : List (List ℕ)) (items : List ItemText) (end : Option RepoFault)
    → Comes files log keys id ahead ids items end → end ≡ None → Follows files log keys ahead ids items
comes_follows files log keys id ahead ids items end (item_comes _ rest _ item later _ front h) none =
    let f = comes_follows files log keys id rest ids later end h none in
    record {
      contents = f.contents;
      hold = f.hold;
      spelled = first_item (ahead ++ joined f.contents) (rest ++ joined f.contents) item later (item_more ahead rest (joined f.contents) item front) f.spelled;
    }
comes_follows files log keys id ahead ids items end (chunk_comes _ chunk content others _ _ front holds h) none =
    let f = comes_follows files log keys id (ahead ++ content) others items end h none in
    record {
      contents = content ∷ f.contents;
      hold = (holds, f.hold);
      spelled = subst (λ (s : List ℕ). ItemsOf s items) (append_assoc ahead content (joined f.contents)) f.spelled;
    }
comes_follows files log keys id ahead ids items end (chunk_refused _ chunk others fault front of_files refuses) none = absurd cc
comes_follows files log keys id ahead ids items end (item_faulty _ _ fault front) none = absurd cc
comes_follows files log keys id ahead ids items end stream_whole none = record { contents = []; hold = tt; spelled = no_more_items }
comes_follows files log keys id ahead ids items end (stream_cut _ front some) none = absurd cc

left_nothing : (bytes : List ℕ) → bytes_left bytes ≡ bytes_left [] → bytes ≡ []
left_nothing bytes e = cc

reads_comes : (files : Files) (log : LogState) (keys : Keys) (id bytes : List ℕ) (ids pieces : List (List ℕ)) (items : List ItemText) (end : End)
    → Reads bytes pieces items end → end ≡ bytes_left [] → HoldChunks files log keys ids pieces → Comes files log keys id bytes ids items None
reads_comes files log keys id bytes ids pieces items end (reads_item _ rest _ text later _ front h) whole hold =
    item_comes bytes rest ids text later None front (reads_comes files log keys id rest ids pieces later end h whole hold)
reads_comes files log keys id bytes [] pieces items end (feeds_piece _ piece others _ _ front h) whole hold = absurd hold
reads_comes files log keys id bytes (i ∷ is) pieces items end (feeds_piece _ piece others _ _ front h) whole hold =
    chunk_comes bytes i piece is items None front hold.0 (reads_comes files log keys id (bytes ++ piece) is others items end h whole hold.1)
reads_comes files log keys id bytes [] pieces items end (ends _ front) whole hold =
    subst (λ (s : List ℕ). Comes files log keys id s [] [] None) (sym (left_nothing bytes whole)) stream_whole
reads_comes files log keys id bytes (i ∷ is) pieces items end (ends _ front) whole hold = absurd hold
reads_comes files log keys id bytes ids pieces items end (fails _ _ fault front) whole hold = absurd cc

pub whole_comes : (files : Files) (log : LogState) (keys : Keys) (id : List ℕ) (ids : List (List ℕ)) (items : List ItemText)
    → Comes files log keys id [] ids items None ↔ IsStream files log keys ids items
whole_comes files log keys id ids items = (
  λ comes. let f = comes_follows files log keys id [] ids items None comes refl in record { contents = f.contents; hold = f.hold; spelled = f.spelled },
  λ stream. reads_comes files log keys id [] ids stream.contents items (bytes_left []) ((whole_stream stream.contents items).0 stream.spelled) refl stream.hold,
)

-- ---- a walk that fits

holds_both : (files : Files) (log : LogState) (keys : Keys) (ids others contents more : List (List ℕ)) → HoldChunks files log keys ids contents
    → HoldChunks files log keys others more → HoldChunks files log keys (ids ++ others) (contents ++ more)
holds_both files log keys [] others [] more hold later = later
holds_both files log keys [] others (c ∷ cs) more hold later = absurd hold
holds_both files log keys (i ∷ is) others [] more hold later = absurd hold
holds_both files log keys (i ∷ is) others (c ∷ cs) more hold later = (hold.0, holds_both files log keys is others cs more hold.1 later)

joined_both : (contents more : List (List ℕ)) → joined (contents ++ more) ≡ joined contents ++ joined more
joined_both [] more = refl
joined_both (c ∷ cs) more = ap (λ (s : List ℕ). c ++ s) (joined_both cs more) ∙ sym (append_assoc c (joined cs) (joined more))

take_drop : (ids : List (List ℕ)) (n : ℕ) → take n ids ++ drop n ids ≡ ids
take_drop ids zero = refl
take_drop [] (suc n) = refl
take_drop (i ∷ is) (suc n) = ap (λ (s : List (List ℕ)). i ∷ s) (take_drop is n)

fits_follows : (files : Files) (log : LogState) (keys : Keys) (id : List ℕ) (ids : List (List ℕ)) (read : ℕ) (ahead : List ℕ) (ending : Ending)
    (fits : FitsWalk files log keys (at id ids read ahead ending)) (items : List ItemText)
    → Follows files log keys fits.left (drop read ids) items → IsStream files log keys ids (fits.items ++ items)
fits_follows files log keys id ids read ahead ending fits items f = record {
  contents = fits.contents ++ f.contents;
  hold = subst (λ (s : List (List ℕ)). HoldChunks files log keys s (fits.contents ++ f.contents)) (take_drop ids read)
      (holds_both files log keys (take read ids) (drop read ids) fits.contents f.contents fits.hold f.hold);
  spelled = subst (λ (s : List ℕ). ItemsOf s (fits.items ++ items))
      (sym (joined_both fits.contents f.contents ∙ (ap (λ (s : List ℕ). s ++ joined f.contents) fits.split
      ∙ append_assoc fits.front fits.left (joined f.contents))))
      (streams_joined fits.front (fits.left ++ joined f.contents) fits.items items fits.answered f.spelled);
}

fits_at : (files : Files) (log : LogState) (keys : Keys) (id : List ℕ) (ids : List (List ℕ)) (read : ℕ) (ahead : List ℕ) (ending : Ending)
    (fits : FitsWalk files log keys (at id ids read ahead ending)) (items : List ItemText)
    → IsToCome files log keys (at id ids read ahead ending) items None → IsStream files log keys ids (fits.items ++ items)
unfolding IsToCome
fits_at files log keys id ids read ahead Open fits items h =
    fits_follows files log keys id ids read ahead Open fits items
    (subst (λ (s : List ℕ). Follows files log keys s (drop read ids) items) (sym fits.left_is)
    (comes_follows files log keys id ahead (drop read ids) items None h refl))
fits_at files log keys id ids read ahead Whole fits items h =
    fits_follows files log keys id ids read ahead Whole fits items
    (rw (fits.left_is, h.0, fits.met, drop_all (length ids) ids (omega arith)) (record { contents = []; hold = tt; spelled = no_more_items }))
fits_at files log keys id ids read ahead Cut fits items h = absurd (let none : ⊥ = (let e = h.1 in cc) in none)

pub fits_stream : (files : Files) (log : LogState) (keys : Keys) (walk : WalkState) (fits : FitsWalk files log keys walk) (items : List ItemText)
    → IsToCome files log keys walk items None → IsStream files log keys walk.ids (fits.items ++ items)
fits_stream files log keys walk fits items h = fits_at files log keys walk.id walk.ids walk.read walk.ahead walk.ending fits items h
