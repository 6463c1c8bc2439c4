-- The key of the tests can be sealed.
use Rattle.std.proofs.Common.{◌≡◌, true, codes, replicate, Vec, Global, refl, arith, negsuc}
use Rattle.std.proofs.lemmas.Int.{ints}
use Rattle.ferry_msgpack.specs.Tree.{Pairs, flag, nil, no_pairs, pair, table}
use Rattle.ferry_msgpack.specs.Shortest.{shortest_count, shortest_number}
use Rattle.ferry_msgpack.specs.View.{value_view, pairs_view}
use Rattle.ferry_msgpack.specs.declared.value.Value.{Value, Table}
use Rattle.ferry_msgpack.proofs.ViewLemmas.{Entry, view_table}
use Rattle.ferry_fields.specs.Others.{has_among}
use Rattle.ferry_keyblob.specs.Opening.{Opened}
use Rattle.ferry_keyblob.specs.Sealing.{IsSealable, more_of, packed, packed_pairs}

abbrev sample : Pairs → Opened
sample more = record {
  keys = record { enc_key = replicate 32 101; enc_hmac_key = replicate 32 109; id_key = replicate 32 105 };
  repository_id = replicate 32 114;
  chunk_seed = negsuc 6;
  more = table more;
}

-- the other names of the key of the tests
abbrev two_names : Pairs
two_names = pair (codes "tam_required") (flag true) (pair (codes "zone") nil no_pairs)

sealable : IsSealable (sample no_pairs)
unfolding more_of has_among packed packed_pairs shortest_number shortest_count
sealable = record {
  more = refl;
  apart = refl;
  writable = record { depth_fits = omega arith; fits = (omega arith, tt, tt) };
  seed = (grind (arith, ints), grind (arith, ints));
  size = omega arith;
}

sealable_with_two : IsSealable (sample two_names)
unfolding more_of has_among packed packed_pairs shortest_number shortest_count
sealable_with_two = record {
  more = refl;
  apart = refl;
  writable = record { depth_fits = omega arith; fits = (omega arith, (refl, (tt, tt)), (omega arith, tt, (omega arith, tt, tt))) };
  seed = (grind (arith, ints), grind (arith, ints));
  size = omega arith;
}

pub sample_sealable : (v : Vec Entry Global) → pairs_view v.items ≡ no_pairs → IsSealable (record {
  keys = record { enc_key = replicate 32 101; enc_hmac_key = replicate 32 109; id_key = replicate 32 105 };
  repository_id = replicate 32 114;
  chunk_seed = negsuc 6;
  more = value_view (Table v);
})
sample_sealable v e = rw (view_table v, e) sealable

pub sample_with_two : (more : Value) → value_view more ≡ table two_names → IsSealable (record {
  keys = record { enc_key = replicate 32 101; enc_hmac_key = replicate 32 109; id_key = replicate 32 105 };
  repository_id = replicate 32 114;
  chunk_seed = negsuc 6;
  more = value_view more;
})
sample_with_two more e = rw e sealable_with_two
