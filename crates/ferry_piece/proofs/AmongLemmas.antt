-- What is among contents, and what holds of each of them.
use Rattle.std.proofs.Common.{◌≡◌, ℕ, zero, suc, List, [], ◌∷◌, ◌++◌, Some, slice_get}
use Rattle.std.proofs.Common.{refl, sym, subst}
use Rattle.std.specs.List.{AllByRecursion}
use Rattle.ferry_piece.specs.Gather.{IsAmong}

got_front : (some more : List (List ℕ)) (place : ℕ) (content : List ℕ) → slice_get some place ≡ Some content → slice_get (some ++ more) place ≡ Some content
got_front [] more place content is = absurd cc
got_front (s ∷ ss) more zero content is = is
got_front (s ∷ ss) more (suc place) content is = got_front ss more place content is

-- what is among the first is among both
pub among_front : (some more : List (List ℕ)) (content : List ℕ) → IsAmong some content → IsAmong (some ++ more) content
among_front some more content is = (is.0, got_front some more is.0 content is.1)

-- what is among the last is among both
pub among_behind : (some more : List (List ℕ)) (content : List ℕ) → IsAmong more content → IsAmong (some ++ more) content
among_behind [] more content is = is
among_behind (s ∷ ss) more content is = let later = among_behind ss more content is in (suc later.0, later.1)

-- what stands behind a front of all is among all
pub among_next : (all some more : List (List ℕ)) (content : List ℕ) → all ≡ some ++ content ∷ more → IsAmong all content
among_next all some more content split =
    subst (λ (l : List (List ℕ)). IsAmong l content) (sym split) (among_behind some (content ∷ more) content (0, refl))

-- of each holds what follows from what holds of it
pub each_to : (P Q : List ℕ → Type 0) (contents : List (List ℕ)) → ((content : List ℕ) → P content → Q content) → AllByRecursion P contents
    → AllByRecursion Q contents
each_to P Q [] step all = tt
each_to P Q (c ∷ cs) step all = (step c all.0, each_to P Q cs step all.1)

-- each of all is among them
pub all_among : (contents : List (List ℕ)) → AllByRecursion (IsAmong contents) contents
all_among [] = tt
all_among (c ∷ cs) = ((zero, refl), each_to (IsAmong cs) (IsAmong (c ∷ cs)) cs (λ content is. (suc is.0, is.1)) (all_among cs))

all_at : (P : List ℕ → Type 0) (contents : List (List ℕ)) (place : ℕ) (content : List ℕ) → AllByRecursion P contents
    → slice_get contents place ≡ Some content → P content
all_at P [] place content all is = absurd cc
all_at P (c ∷ cs) zero content all is = let same : c ≡ content = cc in subst P same all.0
all_at P (c ∷ cs) (suc place) content all is = all_at P cs place content all.1 is

-- what holds of each of them holds of one that is among them
pub among_all : (P : List ℕ → Type 0) (contents : List (List ℕ)) (content : List ℕ) → AllByRecursion P contents → IsAmong contents content → P content
among_all P contents content all is = all_at P contents is.0 content all is.1

-- and of each of some that are among them
pub all_of_among : (P : List ℕ → Type 0) (contents some : List (List ℕ)) → AllByRecursion P contents → AllByRecursion (IsAmong contents) some
    → AllByRecursion P some
all_of_among P contents some all are = each_to (IsAmong contents) P some (λ content is. among_all P contents content all is) are

-- what holds of each of two lists, and of both
pub all_front : (P : List ℕ → Type 0) (some more : List (List ℕ)) → AllByRecursion P (some ++ more) → AllByRecursion P some × AllByRecursion P more
all_front P [] more all = (tt, all)
all_front P (content ∷ some) more all = let rest = all_front P some more all.1 in ((all.0, rest.0), rest.1)

pub all_both : (P : List ℕ → Type 0) (some more : List (List ℕ)) → AllByRecursion P some → AllByRecursion P more → AllByRecursion P (some ++ more)
all_both P [] more all others = others
all_both P (content ∷ some) more all others = (all.0, all_both P some more all.1 others)
