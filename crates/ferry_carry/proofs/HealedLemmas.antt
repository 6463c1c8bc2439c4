-- An item that a walk answers has no field `chunks_healthy`.
use Rattle.std.proofs.Common.{◌≡◌, ℕ, Bool, true, false, List, [], ◌∷◌, ◌++◌, Option, Ok, Err, is_none, if◌then◌else◌}
use Rattle.std.proofs.Common.{drop, refl, sym, ◌∙◌, ap, subst}
use Rattle.ferry_disk.specs.Files.{Files}
use Rattle.ferry_item.proofs.FrontLemmas.{front_both}
use Rattle.ferry_item.proofs.PackableLemmas.{healed_kept}
use Rattle.ferry_item.specs.Item.{ItemText, chunks_in, is_healed, item_of, lacks_path, text_in}
use Rattle.ferry_item.specs.Stream.{Front, an_item, StandsInFront, item_stands, item_is_faulty, no_map_stands, rule_is_broken, value_ends}
use Rattle.ferry_item.specs.Writing.{field_pairs}
use Rattle.ferry_item.specs.declared.fault.ItemFault.TheVariants as item_fault
use Rattle.ferry_log.specs.State.{FitsFiles, LogState}
use Rattle.ferry_mac.specs.declared.keys.Keys.{Keys}
use Rattle.ferry_msgpack.specs.Tree.{Pairs}
use Rattle.ferry_repo.proofs.WalkLawLemmas.{some_to_come}
use Rattle.ferry_repo.specs.Walk.{Comes, ComesAt, IsToCome, LeadsOn, WalkState, item_comes, chunk_comes, chunk_refused, item_faulty}
use Rattle.ferry_repo.specs.Walk.{stream_whole, stream_cut}
use Rattle.ferry_repo.specs.declared.fault.RepoFault.{RepoFault}
use Rattle.ferry_repo.specs.declared.walk.Ending.{Ending}
use Rattle.ferry_repo.specs.declared.walk.Ending.TheVariants.{Open, Whole, Cut}

-- the tests of a map that is an item
item_said : (path chunks healed : Bool) (said text : ItemText)
    → (if path then Err item_fault.Path else if chunks then Err item_fault.Chunks else if healed then Err item_fault.Healed else Ok said) ≡ Ok text
    → (said ≡ text) × (healed ≡ false)
item_said true chunks healed said text e = absurd (let no : ⊥ = cc in no)
item_said false true healed said text e = absurd (let no : ⊥ = cc in no)
item_said false false true said text e = absurd (let no : ⊥ = cc in no)
item_said false false false said text e = (cc, refl)

-- the item that a map is has no such field
item_whole : (pairs : Pairs) (text : ItemText) → item_of pairs ≡ Ok text → is_healed (field_pairs text) ≡ false
unfolding item_of
item_whole pairs text is =
    let said = item_said (lacks_path pairs) (is_none (chunks_in pairs)) (is_healed pairs) (text_in pairs) text is in
    ap (λ (t : ItemText). is_healed (field_pairs t)) (sym said.0) ∙ (healed_kept pairs ∙ said.1)

-- nor has an item that stands in front of bytes
front_whole : (bytes : List ℕ) (front : Front) (text : ItemText) (rest : List ℕ) → StandsInFront bytes front → front ≡ an_item text rest
    → is_healed (field_pairs text) ≡ false
front_whole bytes front text rest (item_stands pairs found spelling after spelled is) e =
    let same : found ≡ text = cc in subst (λ (t : ItemText). is_healed (field_pairs t) ≡ false) same (item_whole pairs found is)
front_whole bytes front text rest (item_is_faulty pairs fault spelling after spelled is) e = absurd (let no : ⊥ = cc in no)
front_whole bytes front text rest (no_map_stands t spelling after spelled is) e = absurd (let no : ⊥ = cc in no)
front_whole bytes front text rest (rule_is_broken _ broken is short) e = absurd (let no : ⊥ = cc in no)
front_whole bytes front text rest (value_ends _ is) e = absurd (let no : ⊥ = cc in no)

module _ (files : Files) (log : LogState) (keys : Keys) where
  -- nor the first item that comes of a stream
  comes_whole : (id bytes : List ℕ) (ids : List (List ℕ)) (all : List ItemText) (end : Option RepoFault) (item : ItemText) (items : List ItemText)
      → Comes files log keys id bytes ids all end → all ≡ item ∷ items → is_healed (field_pairs item) ≡ false
  comes_whole id bytes ids all end item items (item_comes _ rest _ text later _ is h) e =
      let same : text ≡ item = cc in
      subst (λ (t : ItemText). is_healed (field_pairs t) ≡ false) same
      (front_whole bytes (an_item text rest) text rest ((front_both bytes (an_item text rest)).1 is) refl)
  comes_whole id bytes ids all end item items (chunk_comes _ _ content others _ _ is holds h) e =
      comes_whole id (bytes ++ content) others all end item items h e
  comes_whole id bytes ids all end item items (chunk_refused _ _ _ fault is of_files refuses) e = absurd (let no : ⊥ = cc in no)
  comes_whole id bytes ids all end item items (item_faulty _ _ fault is) e = absurd (let no : ⊥ = cc in no)
  comes_whole id bytes ids all end item items stream_whole e = absurd (let no : ⊥ = cc in no)
  comes_whole id bytes ids all end item items (stream_cut _ is some) e = absurd (let no : ⊥ = cc in no)

  -- nor the first that is to come from where a walk stands
  ending_whole : (id ahead : List ℕ) (ids : List (List ℕ)) (ending : Ending) (item : ItemText) (items : List ItemText) (end : Option RepoFault)
      → ComesAt files log keys id ahead ids ending (item ∷ items) end → is_healed (field_pairs item) ≡ false
  ending_whole id ahead ids Open item items end come = comes_whole id ahead ids (item ∷ items) end item items come refl
  ending_whole id ahead ids Whole item items end come = let none : item ∷ items ≡ [] = come.0 in absurd (let no : ⊥ = cc in no)
  ending_whole id ahead ids Cut item items end come = let none : item ∷ items ≡ [] = come.0 in absurd (let no : ⊥ = cc in no)

  to_come_whole : (walk : WalkState) (item : ItemText) (items : List ItemText) (end : Option RepoFault) → IsToCome files log keys walk (item ∷ items) end
      → is_healed (field_pairs item) ≡ false
  unfolding IsToCome
  to_come_whole walk item items end come = ending_whole walk.id walk.ahead (drop walk.read walk.ids) walk.ending item items end come

  -- nor an item behind which a walk stands: something is to come from there, and comes behind the item from where the walk stood before
  pub taken_whole : (before after : WalkState) (item : ItemText) → FitsFiles files log → LeadsOn files log keys before (item ∷ []) after
      → is_healed (field_pairs item) ≡ false
  taken_whole before after item fits leads =
      let some = some_to_come files log keys after fits in to_come_whole before item some.0 some.1.0 (leads some.0 some.1.0 some.1.1)
