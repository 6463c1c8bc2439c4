-- Lemmas on specs/Lines.antt: the lines of the archives so far.
use Rattle.std.proofs.Common.{◌≡◌, ℕ, zero, suc, ◌+◌, ◌<◌, List, [], ◌∷◌, ◌++◌, length, take, drop, get_or, refl, sym, ◌∙◌, ap, add-one, arith}
use Rattle.std.proofs.lemmas.List.{append_assoc, append-nil, take-append-drop}
use Rattle.ferry_manifest.specs.declared.manifest.ArchiveRef.{ArchiveRef}
use Rattle.ferry_item.specs.Item.{ItemText}
use Rattle.ferry_view.specs.Lines.{archive_line, archive_lines, item_line, item_lines}

pub lines-none : archive_lines [] ≡ []
unfolding archive_lines
lines-none = refl

pub lines-cons : (a : ArchiveRef) (all : List ArchiveRef) → archive_lines (a ∷ all) ≡ archive_line a ++ archive_lines all
unfolding archive_lines
lines-cons a all = refl

pub lines-append : (all bs : List ArchiveRef) → archive_lines (all ++ bs) ≡ archive_lines all ++ archive_lines bs
lines-append [] bs = ap (λ k. k ++ archive_lines bs) (sym lines-none)
lines-append (a ∷ all) bs =
    lines-cons a (all ++ bs)
    ∙ (ap (λ k. archive_line a ++ k) (lines-append all bs)
    ∙ (sym (append_assoc (archive_line a) (archive_lines all) (archive_lines bs)) ∙ ap (λ k. k ++ archive_lines bs) (sym (lines-cons a all))))

take_next : (all : List ArchiveRef) (place : ℕ) (d : ArchiveRef) → place < length all → take (suc place) all ≡ take place all ++ get_or all place d ∷ []
take_next [] place d lt = absurd (omega arith)
take_next (a ∷ all) zero d lt = refl
take_next (a ∷ all) (suc place) d lt = ap (λ k. a ∷ k) (take_next all place d (omega arith))

-- the lines with one more
pub lines-more : (all : List ArchiveRef) (place : ℕ) (d : ArchiveRef) → place < length all
    → archive_lines (take (place + 1) all) ≡ archive_lines (take place all) ++ archive_line (get_or all place d)
lines-more all place d lt =
    rw (add-one place) (ap archive_lines (take_next all place d lt)
    ∙ (lines-append (take place all) (get_or all place d ∷ [])
    ∙ ap (λ k. archive_lines (take place all) ++ k)
    (lines-cons (get_or all place d) [] ∙ (ap (λ k. archive_line (get_or all place d) ++ k) lines-none ∙ append-nil (archive_line (get_or all place d))))))

-- the lines of the rest follow
pub lines-rest : (all : List ArchiveRef) (place : ℕ) → archive_lines all ≡ archive_lines (take place all) ++ archive_lines (drop place all)
lines-rest all place = ap archive_lines (sym (take-append-drop place all)) ∙ lines-append (take place all) (drop place all)

-- ---- items

pub item_lines-none : item_lines [] ≡ []
unfolding item_lines
item_lines-none = refl

item_lines-cons : (item : ItemText) (items : List ItemText) → item_lines (item ∷ items) ≡ item_line item ++ item_lines items
unfolding item_lines
item_lines-cons item items = refl

pub item_lines-append : (items more : List ItemText) → item_lines (items ++ more) ≡ item_lines items ++ item_lines more
item_lines-append [] more = ap (λ k. k ++ item_lines more) (sym item_lines-none)
item_lines-append (i ∷ is) more =
    item_lines-cons i (is ++ more)
    ∙ (ap (λ k. item_line i ++ k) (item_lines-append is more)
    ∙ (sym (append_assoc (item_line i) (item_lines is) (item_lines more)) ∙ ap (λ k. k ++ item_lines more) (sym (item_lines-cons i is))))

-- the lines with one more
pub item_lines-more : (items : List ItemText) (item : ItemText) → item_lines (items ++ (item ∷ [])) ≡ item_lines items ++ item_line item
item_lines-more items item =
    item_lines-append items (item ∷ [])
    ∙ ap (λ k. item_lines items ++ k) (item_lines-cons item [] ∙ (ap (λ k. item_line item ++ k) item_lines-none ∙ append-nil (item_line item)))
