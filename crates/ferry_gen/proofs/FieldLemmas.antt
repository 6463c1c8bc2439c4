-- Lemmas on specs/Fields.antt: records and items of these fields can be packed.
use Rattle.std.proofs.Common.{◌≡◌, ◌≤◌, ℕ, List, length, false, true, None, Some, refl, sym, subst, arith, rules}
use Rattle.std.specs.List.{AllByRecursion}
use Rattle.ferry_base.specs.Limits.{content_limit}
use Rattle.ferry_fields.specs.Fields.{value_of}
use Rattle.ferry_fields.specs.Others.{has_among}
use Rattle.ferry_item.specs.Item.{is_healed}
use Rattle.ferry_item.specs.Writing.{IsPackable, field_pairs}
use Rattle.ferry_item.specs.declared.item.ChunkRef.{ChunkRef}
use Rattle.ferry_manifest.specs.Record.Writing.{IsPackableArchive}
use Rattle.ferry_msgpack.specs.Tree.{Tree}
use Rattle.ferry_msgpack.specs.Writable.{IsWritable}
use Rattle.ferry_gen.specs.Content.{archive_name}
use Rattle.ferry_gen.specs.Fields.{archive_fields, item_fields}

record_writable : (archive : ℕ) → IsWritable (archive_fields archive)
record_writable archive = record { depth_fits = omega arith; fits = search (arith, rules) }

item_writable : (file : ℕ) → IsWritable (item_fields file)
item_writable file = record { depth_fits = omega arith; fits = search (arith, rules) }

-- a record
pub new_packable : (archive : ℕ) (name : List ℕ) (ids : List (List ℕ)) (fields : Tree) → name ≡ archive_name archive → fields ≡ archive_fields archive
    → IsPackableArchive (record { name = name; items = ids; params = None; fields = fields; tagged = true })
unfolding has_among value_of
new_packable archive name ids fields named is =
    subst (λ (f : Tree). IsPackableArchive (record { name = name; items = ids; params = None; fields = f; tagged = true })) (sym is)
    (subst (λ (n : List ℕ). IsPackableArchive (record { name = n; items = ids; params = None; fields = archive_fields archive; tagged = true })) (sym named)
    (record {
      fields = refl;
      fields_writable = record_writable archive;
      apart = refl;
      version = refl;
      name = refl;
      params = tt;
    }))

-- an item
pub item_packable : (file : ℕ) (chunks : List ChunkRef) (fields : Tree) → fields ≡ item_fields file
    → AllByRecursion (λ (chunk : ChunkRef). chunk.size ≤ content_limit) chunks → length chunks ≤ 4294967295
    → IsPackable (record { fields = fields; chunks = Some chunks })
unfolding has_among value_of
item_packable file chunks fields is sizes few =
    subst (λ (f : Tree). IsPackable (record { fields = f; chunks = Some chunks })) (sym is) (record {
      is_table = refl;
      writable = item_writable file;
      path = refl;
      apart = refl;
      chunks = (sizes, omega (arith, few), omega arith);
    })

-- it has no field of a repaired item
pub item_sound : (file : ℕ) (chunks : List ChunkRef) → is_healed (field_pairs (record { fields = item_fields file; chunks = Some chunks })) ≡ false
unfolding value_of
item_sound file chunks = refl
