-- What is read can be packed.
use Rattle.std.proofs.Common.{◌≡◌, ℕ, ◌+◌, ◌^◌, ◌<◌, ◌≤◌, Bool, true, false, List, [], ◌∷◌, length, codes, Option, Some, None, is_none, is_some, option_map}
use Rattle.std.proofs.Common.{option_and_then, nat_le, refl, sym, ap, subst, ◌∙◌, arith}
use Rattle.std.specs.List.{AllByRecursion}
use Rattle.std.specs.Str.{bytes_eq}
use Rattle.std.proofs.lemmas.Bool.{leb-true}
use Rattle.std.proofs.lemmas.Slice.Eq.{bytes_eq-Decides}
use Rattle.ferry_base.specs.Limits.{content_limit}
use Rattle.ferry_msgpack.specs.Tree.{Tree, nil, flag, number, raw, array, table, Items, no_items, item, items_count, Pairs, no_pairs, pair, pairs_count}
use Rattle.ferry_msgpack.specs.Writable.{Fits, IsWritable}
use Rattle.ferry_fields.specs.Fields.{number_of, raw_of, value_of}
use Rattle.ferry_fields.specs.Others.{is_among, without}
use Rattle.ferry_fields.proofs.FieldLemmas.{value_of-other, value_of-none}
use Rattle.ferry_fields.proofs.OtherLemmas.{without-among, without-other}
use Rattle.ferry_fields.proofs.KeptLemmas.{without_writable, has_among-without, value_of-without, pairs_count-without}
use Rattle.ferry_item.specs.Item.{chunk_from, chunk_of, chunks_in, chunks_names, chunks_of, chunks_said, chunks_where, csize_of, id_of, is_healed, items_in}
use Rattle.ferry_item.specs.Item.{lacks_path, length_of, natural_of, size_of, three_of}
use Rattle.ferry_item.specs.Writing.{ChunksFit, IsPackable}
use Rattle.ferry_item.specs.declared.item.ChunkRef.{ChunkRef}
use Rattle.ferry_item.proofs.ReadLemmas.{value_fits}

-- ---- the sizes of chunks

small_at : (n s : ℕ) (b : Bool) → nat_le n content_limit ≡ b → length_of n ≡ Some s → s ≤ content_limit
small_at n s true le e = let same : n ≡ s = cc in omega (arith, leb-true n content_limit le)
small_at n s false le e = absurd cc

size_small : (o : Option ℕ) (s : ℕ) → option_and_then length_of o ≡ Some s → s ≤ content_limit
size_small None s e = absurd cc
size_small (Some n) s e = small_at n s (nat_le n content_limit) refl e

chunk_small : (id : Option (List ℕ)) (size csize : Option ℕ) (chunk : ChunkRef) → ((s : ℕ) → size ≡ Some s → s ≤ content_limit)
    → option_and_then (λ i. option_and_then (λ s. option_map (λ c. record { id = i; size = s; csize = c }) csize) size) id ≡ Some chunk
    → chunk.size ≤ content_limit
chunk_small None size csize chunk small e = absurd cc
chunk_small (Some i) None csize chunk small e = absurd cc
chunk_small (Some i) (Some s) None chunk small e = absurd cc
chunk_small (Some i) (Some s) (Some c) chunk small e =
    let same : s ≡ chunk.size = cc in
    subst (λ (n : ℕ). n ≤ content_limit) same (small s refl)

of_three : (o : Option (Tree × Tree × Tree)) (chunk : ChunkRef) → option_and_then chunk_from o ≡ Some chunk → chunk.size ≤ content_limit
of_three None chunk e = absurd cc
of_three (Some (id, size, csize)) chunk e =
    chunk_small (id_of id) (size_of size) (csize_of csize) chunk (size_small (option_and_then natural_of (number_of size))) e

chunk_of-small : (t : Tree) (chunk : ChunkRef) → chunk_of t ≡ Some chunk → chunk.size ≤ content_limit
unfolding chunk_of
chunk_of-small t chunk e = of_three (option_and_then three_of (items_in t)) chunk e

-- chunks that were read of so many values
record AreRead (count : ℕ) (chunks : List ChunkRef) : Type 0 where
  small : AllByRecursion (λ chunk. chunk.size ≤ content_limit) chunks
  counted : length chunks ≡ count

read_more : (count : ℕ) (first : Option ChunkRef) (rest : Option (List ChunkRef)) (chunks : List ChunkRef)
    → ((chunk : ChunkRef) → first ≡ Some chunk → chunk.size ≤ content_limit)
    → ((others : List ChunkRef) → rest ≡ Some others → AreRead count others)
    → option_and_then (λ chunk. option_map (λ others. chunk ∷ others) rest) first ≡ Some chunks → AreRead (count + 1) chunks
read_more count None rest chunks here there e = absurd cc
read_more count (Some chunk) None chunks here there e = absurd cc
read_more count (Some chunk) (Some others) chunks here there e =
    let same : chunk ∷ others ≡ chunks = cc in
    let others_read = there others refl in
    let counted = others_read.counted in
    subst (AreRead (count + 1)) same (record { small = (here chunk refl, others_read.small); counted = omega arith })

chunks_of-read : (items : Items) (chunks : List ChunkRef) → chunks_of items ≡ Some chunks → AreRead (items_count items) chunks
unfolding chunks_of
chunks_of-read no_items chunks e = let same : [] ≡ chunks = cc in subst (AreRead 0) same (record { small = tt; counted = refl })
chunks_of-read (item t ts) chunks e = read_more (items_count ts) (chunk_of t) (chunks_of ts) chunks (chunk_of-small t) (chunks_of-read ts) e

chunks_fit : (items : Items) (count : ℕ) (o : Option (List ChunkRef)) (chunks : Option (List ChunkRef)) → items_count items < 2 ^ 32 → count < 4294967295
    → chunks_of items ≡ o → option_map Some o ≡ Some chunks → ChunksFit chunks count
chunks_fit items count None chunks few less is e = absurd cc
chunks_fit items count (Some found) chunks few less is e =
    let same : Some found ≡ chunks = cc in
    let read = chunks_of-read items found is in
    let counted = read.counted in
    subst (λ (c : Option (List ChunkRef)). ChunksFit c count) same (read.small, omega arith, less)

chunks_said-fit : (t : Tree) (count : ℕ) (chunks : Option (List ChunkRef)) → Fits t → count < 4294967295 → chunks_said t ≡ Some chunks → ChunksFit chunks count
chunks_said-fit nil count chunks fits less e = let same : None ≡ chunks = cc in subst (λ (c : Option (List ChunkRef)). ChunksFit c count) same tt
chunks_said-fit (flag b) count chunks fits less e = absurd cc
chunks_said-fit (number z) count chunks fits less e = absurd cc
chunks_said-fit (raw content) count chunks fits less e = absurd cc
chunks_said-fit (array items) count chunks fits less e = chunks_fit items count (chunks_of items) chunks fits.0 less refl e
chunks_said-fit (table pairs) count chunks fits less e = absurd cc

-- ---- a name that is left out makes the pairs fewer

fewer_at : (names : List (List ℕ)) (name key : List ℕ) (t u : Tree) (ps : Pairs) (b a : Bool) → bytes_eq key name ≡ b → is_among names key ≡ a
    → is_among names name ≡ true
    → value_of name (pair key u ps) ≡ Some t → (value_of name ps ≡ Some t → pairs_count (without names ps) + 1 ≤ pairs_count ps)
    → pairs_count (without names (pair key u ps)) + 1 ≤ pairs_count ps + 1
fewer_at names name key t u ps true true is among named found rest =
    omega (arith, ap pairs_count (without-among names key u ps among), pairs_count-without names ps)
fewer_at names name key t u ps true false is among named found rest =
    let same : key ≡ name = (bytes_eq-Decides key name).0 is in
    let named_too : is_among names key ≡ true = ap (is_among names) same ∙ named in
    absurd cc
fewer_at names name key t u ps false true is among named found rest =
    omega (arith, ap pairs_count (without-among names key u ps among), pairs_count-without names ps)
fewer_at names name key t u ps false false is among named found rest =
    omega (arith, ap pairs_count (without-other names key u ps among), rest (sym (value_of-other name key u ps is) ∙ found))

no_tree : (t : Tree) (o : Option Tree) → o ≡ None → o ≡ Some t → ⊥
no_tree t o none some = cc

fewer : (names : List (List ℕ)) (name : List ℕ) (t : Tree) (ps : Pairs) → is_among names name ≡ true → value_of name ps ≡ Some t
    → pairs_count (without names ps) + 1 ≤ pairs_count ps
fewer names name t no_pairs named found = absurd (no_tree t (value_of name no_pairs) (value_of-none name) found)
fewer names name t (pair key u ps) named found =
    fewer_at names name key t u ps (bytes_eq key name) (is_among names key) refl refl named found (fewer names name t ps named)

-- ---- all of it

chunks_where-fit : (o : Option Tree) (count : ℕ) (chunks : Option (List ChunkRef)) → ((t : Tree) → o ≡ Some t → Fits t)
    → ((t : Tree) → o ≡ Some t → count < 4294967295) → chunks_where o ≡ Some chunks → ChunksFit chunks count
chunks_where-fit None count chunks fits less e = let same : None ≡ chunks = cc in subst (λ (c : Option (List ChunkRef)). ChunksFit c count) same tt
chunks_where-fit (Some t) count chunks fits less e = chunks_said-fit t count chunks (fits t refl) (less t refl) e

-- what is said is packable
pub text_packable : (all : Pairs) (chunks : Option (List ChunkRef)) → IsWritable (table all) → lacks_path all ≡ false → chunks_in all ≡ Some chunks
    → IsPackable (record { fields = table (without chunks_names all); chunks = chunks })
text_packable all chunks writable path said =
    let fits = writable.fits in
    let count : pairs_count all < 2 ^ 32 = fits.0 in
    record {
      is_table = refl;
      writable = without_writable chunks_names all writable;
      path = ap (λ (o : Option Tree). is_none (option_and_then raw_of o)) (value_of-without chunks_names (codes "path") all refl) ∙ path;
      apart = has_among-without chunks_names all;
      chunks =
          chunks_where-fit (value_of (codes "chunks") all) (pairs_count (without chunks_names all)) chunks
          (λ t found. value_fits (codes "chunks") t all fits.2 found)
          (λ t found. omega (arith, count, fewer chunks_names (codes "chunks") t all refl found)) said;
    }

-- a field is healed where it was
pub healed_kept : (all : Pairs) → is_healed (without chunks_names all) ≡ is_healed all
healed_kept all = ap (λ (o : Option Tree). is_some o) (value_of-without chunks_names (codes "chunks_healthy") all refl)
