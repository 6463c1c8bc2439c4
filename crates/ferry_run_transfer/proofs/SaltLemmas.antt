-- The records that a transfer adds, and how many bytes are drawn for them.
use Rattle.std.proofs.Common.{◌≡◌, ◌*◌, ℕ, List, [], ◌∷◌, ◌++◌, length, map, Option, refl, sym, subst, arith}
use Rattle.std.proofs.lemmas.List.{append_assoc, length-append}
use Rattle.std.specs.List.{AllByRecursion}
use Rattle.ferry_carry.proofs.NamesLemmas.{lists_begins}
use Rattle.ferry_carry.proofs.TagLemmas.{names_records, tags_then}
use Rattle.ferry_carry.specs.Listing.{BeginsNames, ListsNames}
use Rattle.ferry_carry.specs.Naming.{DrawsSalts, HasSalts, TaggedRecord, TagsDrawn, records_in, salts_of}
use Rattle.ferry_disk.specs.Files.{Files}
use Rattle.ferry_piece.specs.Puts.{Addition}
use Rattle.ferry_repo.specs.Opening.{RepoState}
use Rattle.ferry_carry.specs.States.{Drawn}
use Rattle.ferry_run_transfer.specs.Transfer.{Request, chosen_of, from_source}
use Rattle.ferry_run_transfer.specs.TransferCauses.{IsOfAdded, IsOfNext}

-- ---- records

-- of names there are these
pub records_of : (files : Files) (request : Request) (source target : RepoState) (names : List (List ℕ)) (records : List TaggedRecord)
    (added : List Addition) → ListsNames (from_source request files source) target.keys target.manifest [] names records added
    → records_in added ≡ map (λ (one : TaggedRecord). one.text) records
records_of files request source target names records added lists =
    (names_records files (from_source request files source) target.keys target.manifest [] names records added refl lists).0

-- a content that was to be added for the next name is added, behind those of the names before
pub next_added : (request : Request) (drawn : Drawn) (source start : Files) (lines : List (List ℕ)) (id : List ℕ)
    → IsOfNext request drawn source start lines id → IsOfAdded request drawn source start id
next_added request drawn source start lines id next =
    let stops = next.stops in
    let ends = stops.ends in
    let from = from_source request source next.repo in
    let keys = next.target.keys in
    let last = ends.one ∷ [] in
    let all : stops.added ++ (ends.front ++ last) ≡ (stops.added ++ ends.front) ++ last = sym (append_assoc stops.added ends.front last) in
    record {
      repo = next.repo;
      opens = next.opens;
      target = next.target;
      target_opens = next.target_opens;
      front = stops.added ++ ends.front;
      one = ends.one;
      begins = subst (BeginsNames from keys next.target.manifest [] (chosen_of request.names next.repo.manifest)) all
          (subst (λ (l : List (List ℕ)). BeginsNames from keys next.target.manifest [] l (stops.added ++ (ends.front ++ last))) (sym stops.split)
          (lists_begins from keys next.target.manifest stops.done stops.name stops.rest stops.records stops.added (ends.front ++ last) stops.lists
          ends.begins));
      tags = subst (λ (l : List Addition). TagsDrawn keys l drawn.before drawn.now) all
          (tags_then keys stops.records stops.added (ends.front ++ last) drawn.before stops.middle drawn.now
          (names_records source from keys next.target.manifest [] stops.done stops.records stops.added refl stops.lists) stops.drew ends.tags);
      id_is = ends.id_is;
    }

-- ---- salts

salts_size : (records : List TaggedRecord) → AllByRecursion HasSalts records → length (salts_of records) ≡ 128 * length records
salts_size [] sizes = refl
salts_size (one ∷ records) sizes =
    let rest = salts_size records sizes.1 in
    let behind = length-append one.manifest_salt (salts_of records) in
    let all = length-append one.salt (one.manifest_salt ++ salts_of records) in
    omega (arith, all, behind, rest, sizes.0.0, sizes.0.1)

-- 128 bytes are drawn for a record
pub drawn_size : (records : List TaggedRecord) (before now : Option (List ℕ)) → DrawsSalts records before now
    → length (salts_of records) ≡ 128 * length records
drawn_size records before now draws = salts_size records draws.sizes
