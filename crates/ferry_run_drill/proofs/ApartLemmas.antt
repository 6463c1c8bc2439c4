-- Contents that are no block from a number on, and blocks that are new behind such.
use Rattle.std.proofs.Common.{◌≡◌, ◌⊎◌, inl, inr, ◌≤◌, ◌<◌, ◌+◌, ◌*◌, ◌^◌, ℕ, zero, suc, List, [], ◌∷◌, ◌++◌, length, refl, sym, ◌∙◌, ap, subst, arith}
use Rattle.std.proofs.lemmas.List.{append-nil, append_assoc}
use Rattle.std.specs.List.{AllByRecursion}
use Rattle.ferry_piece.proofs.AmongLemmas.{all_among, all_both, among_all, among_behind, each_to}
use Rattle.ferry_piece.specs.Gather.{IsAmong}
use Rattle.ferry_piece.specs.Puts.{Addition, AreOf, Content, contents_in}
use Rattle.ferry_run_drill.proofs.BlockLemmas.{block, block_lead, blocks_from, first_number, first_same, lead, number_is, span_size}
use Rattle.ferry_run_drill.proofs.NewLemmas.{AreNew, Counts, PutsNew, counts_new, counts_old}

-- A content isn't a block of this number or a higher one: it spells a lower number, or one that is none of a block.
abbrev pub IsApart : ℕ → List ℕ → Type 0
IsApart bound content = (lead content < bound) ⊎ (2 ^ 63 ≤ lead content)

-- None of these is.
abbrev pub AreApart : ℕ → List (List ℕ) → Type 0
AreApart bound contents = AllByRecursion (IsApart bound) contents

wider : (bound more : ℕ) (content : List ℕ) → bound ≤ more → IsApart bound content → IsApart more content
wider bound more content most (inl low) = inl (omega (arith, most, low))
wider bound more content most (inr high) = inr high

pub apart_wider : (bound more : ℕ) (contents : List (List ℕ)) → bound ≤ more → AreApart bound contents → AreApart more contents
apart_wider bound more contents most all = each_to (IsApart bound) (IsApart more) contents (λ content. wider bound more content most) all

-- contents that are no blocks at all
pub apart_more : (bound : ℕ) (before contents : List (List ℕ)) → AreApart bound before → AllByRecursion (λ (content : List ℕ). 2 ^ 63 ≤ lead content) contents
    → AreApart bound (before ++ contents)
apart_more bound before contents all high =
    all_both (IsApart bound) before contents all
    (each_to (λ (content : List ℕ). 2 ^ 63 ≤ lead content) (IsApart bound) contents (λ content is. inr is) high)

-- ---- blocks

-- how many blocks a file has
abbrev pub block_count : ℕ → ℕ
block_count file = 8 * (file + 1)

-- the bound behind the first files of an archive
abbrev pub bound_at : ℕ → ℕ → ℕ
bound_at archive file = archive * 2 ^ 40 + file * 2 ^ 32

pub blocks_size : (archive file first count : ℕ) → length (blocks_from archive file first count) ≡ count
unfolding blocks_from
blocks_size archive file first zero = refl
blocks_size archive file first (suc count) = omega (arith, blocks_size archive file (suc first) count)

pub blocks_long : (archive file first count : ℕ) → AllByRecursion (λ (content : List ℕ). length content ≡ 512) (blocks_from archive file first count)
unfolding blocks_from
blocks_long archive file first zero = tt
blocks_long archive file first (suc count) = (span_size archive file (first * 512) 512, blocks_long archive file (suc first) count)

blocks_new : (archive file first count : ℕ) (before : List (List ℕ)) → first_number archive file + (first + count) < 2 ^ 63
    → AreApart (first_number archive file + first) before
    → AreNew before (blocks_from archive file first count)
    × AreApart (first_number archive file + (first + count)) (before ++ blocks_from archive file first count)
unfolding blocks_from
blocks_new archive file first zero before low all =
    let same : first_number archive file + first ≡ first_number archive file + (first + 0) = omega arith in (
      tt,
      subst (λ (l : List (List ℕ)). AreApart (first_number archive file + (first + 0)) l) (sym (append-nil before))
          (subst (λ (n : ℕ). AreApart n before) same all),
    )
blocks_new archive file first (suc count) before low all =
    let one = block archive file first in
    let number = first_number archive file + first in
    let spelt : lead one ≡ number =
    block_lead archive file first (omega (arith, low, number_is archive file first)) ∙ number_is archive file first in
    let next : number + 1 ≡ first_number archive file + suc first = omega arith in
    let more : AreApart (number + 1) (before ++ one ∷ []) =
    all_both (IsApart (number + 1)) before (one ∷ []) (apart_wider number (number + 1) before (omega arith) all) (inl (omega (arith, spelt)), tt) in
    let e : first_number archive file + (suc first + count) ≡ first_number archive file + (first + suc count) = omega arith in
    let later = blocks_new archive file (suc first) count (before ++ one ∷ []) (omega (arith, low))
    (subst (λ (n : ℕ). AreApart n (before ++ one ∷ [])) next more) in (
      (λ among. apart_from (among_all (IsApart number) before one all among) spelt, later.0),
      subst (λ (l : List (List ℕ)). AreApart (first_number archive file + (first + suc count)) l)
          (append_assoc before (one ∷ []) (blocks_from archive file (suc first) count))
          (subst (λ (n : ℕ). AreApart n ((before ++ one ∷ []) ++ blocks_from archive file (suc first) count)) e later.1),
    )
  where
    apart_from : IsApart (first_number archive file + first) (block archive file first)
        → lead (block archive file first) ≡ first_number archive file + first → ⊥
    apart_from (inl less) spelt = omega (arith, less, spelt)
    apart_from (inr high) spelt = omega (arith, high, spelt, low)

-- The pieces of a file count all, and behind them the contents are apart from all of the next file.
pub record CountsFile (archive file count : ℕ) (before : List (List ℕ)) (own : List Addition) : Type 0 where
  pub counts : Counts count own
  pub apart : AreApart (bound_at archive (file + 1)) (before ++ contents_in own)

counts_blocks : (archive file : ℕ) (before : List (List ℕ)) (own : List Addition) → file < 8 → archive < 64 → first_number archive file ≡ bound_at archive file
    → AreOf Content own → contents_in own ≡ blocks_from archive file 0 (block_count file) → AreApart (bound_at archive file) before → PutsNew before own
    → CountsFile archive file (block_count file) before own
counts_blocks archive file before own low less first are own_is all puts =
    let blocks = blocks_from archive file 0 (block_count file) in
    let begin : bound_at archive file ≡ first_number archive file + 0 = omega (arith, first) in
    let new = blocks_new archive file 0 (block_count file) before (omega (arith, first, low, less)) (subst (λ (n : ℕ). AreApart n before) begin all) in
    let sized : length (contents_in own) ≡ block_count file = ap length own_is ∙ blocks_size archive file 0 (block_count file) in
    let sizes : AllByRecursion (λ (content : List ℕ). length content ≡ 512) (contents_in own) =
    subst (AllByRecursion (λ (content : List ℕ). length content ≡ 512)) (sym own_is) (blocks_long archive file 0 (block_count file)) in
    record {
      counts = subst (λ (n : ℕ). Counts n own) sized (counts_new before own are sizes (subst (AreNew before) (sym own_is) new.0) puts);
      apart = apart_wider (first_number archive file + (0 + block_count file)) (bound_at archive (file + 1)) (before ++ contents_in own)
          (omega (arith, first, low))
          (subst (λ (l : List (List ℕ)). AreApart (first_number archive file + (0 + block_count file)) (before ++ l)) (sym own_is) new.1);
    }

-- a file that is another in each archive
pub counts_file : (archive file : ℕ) (before : List (List ℕ)) (own : List Addition) → 1 ≤ file → file < 8 → archive < 64 → AreOf Content own
    → contents_in own ≡ blocks_from archive file 0 (block_count file) → AreApart (bound_at archive file) before → PutsNew before own
    → CountsFile archive file (block_count file) before own
counts_file archive zero before own some low less are own_is all puts = absurd (let no : ⊥ = omega (arith, some) in no)
counts_file archive (suc file) before own some low less are own_is all puts = counts_blocks archive (suc file) before own low less refl are own_is all puts

-- ---- the first file

-- The blocks of the first file are among these.
abbrev pub HasFirst : List (List ℕ) → Type 0
HasFirst before = AllByRecursion (IsAmong before) (blocks_from 0 0 0 8)

-- in the first archive it is new
pub counts_first : (before : List (List ℕ)) (own : List Addition) → AreOf Content own → contents_in own ≡ blocks_from 0 0 0 8 → AreApart 0 before
    → PutsNew before own → CountsFile 0 0 8 before own
counts_first before own are own_is all puts = counts_blocks 0 0 before own (omega arith) (omega arith) refl are own_is all puts

low_blocks : (bound first count : ℕ) → first + count ≤ bound → first + count < 2 ^ 63 → AreApart bound (blocks_from 0 0 first count)
unfolding blocks_from
low_blocks bound first zero most low = tt
low_blocks bound first (suc count) most low =
    (inl (omega (arith, most, block_lead 0 0 first (omega (arith, low)))), low_blocks bound (suc first) count (omega (arith, most)) (omega (arith, low)))

-- in each further one it isn't
pub counts_again : (archive : ℕ) (before : List (List ℕ)) (own : List Addition) → AreOf Content own → contents_in own ≡ blocks_from archive 0 0 8
    → HasFirst before → AreApart (bound_at archive 0) before → PutsNew before own → CountsFile archive 0 0 before own
counts_again archive before own are own_is first all puts =
    let is : contents_in own ≡ blocks_from 0 0 0 8 = own_is ∙ first_same archive 0 8 in
    let old : AllByRecursion (IsAmong before) (contents_in own) = subst (AllByRecursion (IsAmong before)) (sym is) first in
    record {
      counts = counts_old before own are old puts;
      apart = all_both (IsApart (bound_at archive 1)) before (contents_in own)
          (apart_wider (bound_at archive 0) (bound_at archive 1) before (omega arith) all)
          (subst (AreApart (bound_at archive 1)) (sym is) (low_blocks (bound_at archive 1) 0 8 (omega arith) (omega arith)));
    }

-- behind it, it is there
pub first_there : (before : List (List ℕ)) (own : List Addition) → contents_in own ≡ blocks_from 0 0 0 8 → HasFirst (before ++ contents_in own)
first_there before own own_is =
    subst (λ (l : List (List ℕ)). AllByRecursion (IsAmong (before ++ l)) (blocks_from 0 0 0 8)) (sym own_is) (behind before (blocks_from 0 0 0 8))
  where
    behind : (before contents : List (List ℕ)) → AllByRecursion (IsAmong (before ++ contents)) contents
    behind before contents =
        each_to (IsAmong contents) (IsAmong (before ++ contents)) contents (λ content is. among_behind before contents content is) (all_among contents)
