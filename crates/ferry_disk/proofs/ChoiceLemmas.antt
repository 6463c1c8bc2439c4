-- Lemmas on specs/Choice.antt: a choice describes one image at most, and one where what it lists of each segment may be left.
use Rattle.std.proofs.Common.{◌≡◌, ℕ, ◌≤◌, Bool, true, false, ◌&&◌, ◌||◌, inl, inr, if◌then◌else◌, nat_eq, List, [], ◌∷◌, ◌++◌, length, map, fold}
use Rattle.std.proofs.Common.{Option, Some, None, option_map, is_some, refl, sym, ◌∙◌, ap, subst}
use Rattle.std.specs.List.{list_any}
use Rattle.std.specs.Map.{lookup}
use Rattle.std.proofs.lemmas.List.Folds.{list_any-append}
use Rattle.std.specs.Ordering.{nat_cmp, eq_by_cmp}
use Rattle.std.specs.Cmp.{unsigned_ties}
use Rattle.std.specs.FinMap.{FinMap, get, insert, remove, empty, keys, contains_key-keys, get-empty}
use Rattle.ferry_disk.specs.Act.{Step, AppendTo, SyncOf, RemoveOf, ReplaceBy, SettleAll, TellOf, Act, History}
use Rattle.ferry_disk.specs.Files.{Files}
use Rattle.ferry_disk.specs.Image.{PlainFate, plain_of, MayStand, Fate, at_rest, fate_after, fate_of, MayLeave, settled, Leaves}
use Rattle.ferry_disk.specs.Choice.{moment_of, tail_of, plain_left, segment_left, ChoosesFiles, Chooses, Describes, MayList}
use Rattle.ferry_disk.specs.declared.choice.Choice.{Choice}
use Rattle.ferry_disk.specs.declared.name.Name.TheVariants.{Config, Nonce, Readme}
use Rattle.ferry_disk.proofs.FilesLemmas.{same_number}
use Rattle.ferry_disk.proofs.ImageLemmas.{get-put, get-cut, or_false, sound_fate, stable_may_be_left, image_of, start_is_image}
use Rattle.ferry_disk.proofs.ImageStepLemmas.{same_files}

-- ---- a finite map of what a function gives at some numbers

abbrev put_at : FinMap nat_cmp (List ℕ) → ℕ → Option (List ℕ) → FinMap nat_cmp (List ℕ)
put_at m k None = remove m k
put_at m k (Some v) = insert m k v

get-put_at : (m : FinMap nat_cmp (List ℕ)) (k : ℕ) (x : Option (List ℕ)) (q : ℕ) → get (put_at m k x) q ≡ (if nat_eq q k then x else get m q)
get-put_at m k None q = get-cut m k q
get-put_at m k (Some v) q = get-put m k v q

abbrev pub map_at : (ℕ → Option (List ℕ)) → List ℕ → FinMap nat_cmp (List ℕ)
map_at f [] = empty
map_at f (k ∷ ks) = put_at (map_at f ks) k (f k)

one_at : (f : ℕ → Option (List ℕ)) (k q : ℕ) (b c : Bool) → nat_eq q k ≡ b
    → (if b then f k else (if c then f q else None)) ≡ (if b || c then f q else None)
one_at f k q true c e = ap f (sym (same_number q k e))
one_at f k q false c e = refl

get-map_at : (f : ℕ → Option (List ℕ)) (ks : List ℕ) (q : ℕ) → get (map_at f ks) q ≡ (if list_any (nat_eq q) ks then f q else None)
get-map_at f [] q = get-empty nat_cmp q
get-map_at f (k ∷ ks) q =
    get-put_at (map_at f ks) k (f k) q
    ∙ (ap (λ o. if nat_eq q k then f k else o) (get-map_at f ks q) ∙ one_at f k q (nat_eq q k) (list_any (nat_eq q) ks) refl)

covered : (f : ℕ → Option (List ℕ)) (ks : List ℕ) (q : ℕ) (b : Bool) → list_any (nat_eq q) ks ≡ b → (list_any (nat_eq q) ks ≡ false → f q ≡ None)
    → get (map_at f ks) q ≡ f q
covered f ks q true e none = get-map_at f ks q ∙ ap (λ b. if b then f q else None) e
covered f ks q false e none = get-map_at f ks q ∙ (ap (λ b. if b then f q else None) e ∙ sym (none e))

-- ---- the segments of which something is said

pub neither : (a b : Bool) → (a || b) ≡ false → (a ≡ false) × (b ≡ false)
neither true b e = absurd (let no : ⊥ = cc in no)
neither false b e = (refl, e)

abbrev number_of : Step → List ℕ
number_of (AppendTo k bytes) = k ∷ []
number_of (SyncOf k) = k ∷ []
number_of (RemoveOf k) = k ∷ []
number_of step = []

abbrev numbers_of : List Act → List ℕ
numbers_of [] = []
numbers_of (act ∷ acts) = number_of act.step ++ numbers_of acts

not_this : (q k : ℕ) (f : Fate) → (nat_eq q k || false) ≡ false → (if nat_eq q k then f else at_rest None) ≡ at_rest None
not_this q k f e = ap (λ b. if b then f else at_rest None) (sym (or_false (nat_eq q k)) ∙ e)

untouched_step : (q : ℕ) (step : Step) (done : Bool) → list_any (nat_eq q) (number_of step) ≡ false
    → fate_after q (at_rest None) (record { step = step; done = done }) ≡ at_rest None
untouched_step q (AppendTo k bytes) done e = not_this q k _ e
untouched_step q (SyncOf k) done e = not_this q k _ e
untouched_step q (RemoveOf k) done e = not_this q k _ e
untouched_step q (ReplaceBy name bytes) done e = refl
untouched_step q SettleAll true e = refl
untouched_step q SettleAll false e = refl
untouched_step q (TellOf line) done e = refl

untouched_acts : (q : ℕ) (acts : List Act) → list_any (nat_eq q) (numbers_of acts) ≡ false → fold (fate_after q) (at_rest None) acts ≡ at_rest None
untouched_acts q [] e = refl
untouched_acts q (act ∷ acts) e =
    let both : (list_any (nat_eq q) (number_of act.step) ≡ false) × (list_any (nat_eq q) (numbers_of acts) ≡ false) =
    neither _ _ (sym (list_any-append (nat_eq q) (number_of act.step) (numbers_of acts)) ∙ e) in
    ap (λ f. fold (fate_after q) f acts) (untouched_step q act.step act.done both.0) ∙ untouched_acts q acts both.1

is_none : (o : Option (List ℕ)) → is_some o ≡ false → o ≡ None
is_none None e = refl
is_none (Some x) e = absurd (let no : ⊥ = cc in no)

same_tests : (q : ℕ) (ks : List ℕ) → list_any (eq_by_cmp nat_cmp q) ks ≡ list_any (nat_eq q) ks
same_tests q [] = refl
same_tests q (k ∷ ks) = let head : eq_by_cmp nat_cmp q k ≡ nat_eq q k = sym (unsigned_ties q k) in let rest = same_tests q ks in cc

pub not_there : (files : Files) (q : ℕ) → list_any (nat_eq q) (keys files.segments) ≡ false → get files.segments q ≡ None
not_there files q e = is_none (get files.segments q) (contains_key-keys files.segments q ∙ (same_tests q (keys files.segments) ∙ e))

pub not_listed : {X : Type 0} (q : ℕ) (tails : List (ℕ × X)) → list_any (nat_eq q) (map (λ t. t.0) tails) ≡ false → lookup (nat_eq q) tails ≡ None
not_listed q [] e = refl
not_listed {X} q (t ∷ tails) e =
    let both : (nat_eq q t.0 ≡ false) × (list_any (nat_eq q) (map (λ t. t.0) tails) ≡ false) = neither _ _ e in
    ap (λ b. if b then Some t.1 else lookup (nat_eq q) tails) both.0 ∙ not_listed q tails both.1

-- ---- what is left may be left

plain_may : (took : Bool) (fate : PlainFate) → MayStand fate (plain_left took fate)
plain_may false fate = inl refl
plain_may true fate = by_perhaps fate.perhaps fate.read where
  by_perhaps : (perhaps read : Option (List ℕ))
      → MayStand (record { read = read; perhaps = perhaps }) (plain_left true (record { read = read; perhaps = perhaps }))
  by_perhaps None read = inl refl
  by_perhaps (Some bytes) read = inr (bytes, refl, refl)

unlisted_may : (took lost : Bool) (fate : Fate) → fate.lost ≡ lost → MayLeave fate fate.stable → MayLeave fate (if took && lost then None else fate.stable)
unlisted_may true true fate e m = inr e
unlisted_may true false fate e m = m
unlisted_may false lost fate e m = m

left_may : (took : Bool) (fate : Fate) (tail : Option (Option (List ℕ))) → MayLeave fate fate.stable
    → ((listed : Option (List ℕ)) → tail ≡ Some listed → MayLeave fate (segment_left took fate (Some listed))) → MayLeave fate (segment_left took fate tail)
left_may took fate None m listed = unlisted_may took fate.lost fate refl m
left_may took fate (Some tail) m listed = listed tail refl

nothing_left : (took : Bool) → segment_left took (at_rest None) None ≡ None
nothing_left true = refl
nothing_left false = refl

-- ---- the image that a choice describes

module _ (choice : Choice) (start : Files) (acts : List Act) where
  abbrev pub left_at : ℕ → Option (List ℕ)
  left_at q = segment_left choice.took (fate_of start acts q) (tail_of choice q)

  abbrev all_numbers : List ℕ
  all_numbers = keys start.segments ++ (numbers_of acts ++ map (λ t. t.0) choice.tails.items)

  outside : (q : ℕ) → list_any (nat_eq q) all_numbers ≡ false → left_at q ≡ None
  unfolding fate_of
  outside q e =
      let first : (list_any (nat_eq q) (keys start.segments) ≡ false)
      × (list_any (nat_eq q) (numbers_of acts ++ map (λ t. t.0) choice.tails.items) ≡ false) =
      neither _ _ (sym (list_any-append (nat_eq q) (keys start.segments) (numbers_of acts ++ map (λ t. t.0) choice.tails.items)) ∙ e) in
      let second : (list_any (nat_eq q) (numbers_of acts) ≡ false) × (list_any (nat_eq q) (map (λ t. t.0) choice.tails.items) ≡ false) =
      neither _ _ (sym (list_any-append (nat_eq q) (numbers_of acts) (map (λ t. t.0) choice.tails.items)) ∙ first.1) in
      ap (λ o. segment_left choice.took (fold (fate_after q) (at_rest o) acts) (tail_of choice q)) (not_there start q first.0)
      ∙ (ap (λ f. segment_left choice.took f (tail_of choice q)) (untouched_acts q acts second.0)
      ∙ (ap (λ o. segment_left choice.took (at_rest None) (option_map (λ tail. option_map (λ v. v.items) tail) o)) (not_listed q choice.tails.items second.1)
      ∙ nothing_left choice.took))

  abbrev pub image_left : Files
  image_left = record {
    config = plain_left choice.took (plain_of start.config acts Config);
    nonce = plain_left choice.took (plain_of start.nonce acts Nonce);
    readme = plain_left choice.took (plain_of start.readme acts Readme);
    segments = map_at left_at all_numbers;
  }

  left_is : (q : ℕ) → get image_left.segments q ≡ left_at q
  left_is q = covered left_at all_numbers q (list_any (nat_eq q) all_numbers) refl (outside q)

  pub chosen_files : ChoosesFiles choice start acts image_left
  chosen_files = record { config = refl; nonce = refl; readme = refl; segments = left_is }

  chosen_leaves : MayList choice start acts → Leaves start acts image_left
  chosen_leaves listed = record {
    config = plain_may choice.took (plain_of start.config acts Config);
    nonce = plain_may choice.took (plain_of start.nonce acts Nonce);
    readme = plain_may choice.took (plain_of start.readme acts Readme);
    segments = λ q. subst (MayLeave (fate_of start acts q)) (sym (left_is q))
        (left_may choice.took (fate_of start acts q) (tail_of choice q) (stable_may_be_left (fate_of start acts q) (sound_fate start acts q)) (listed q));
  }

-- where what is listed may be left, an image is described
pub describes_some : (choice : Choice) (history : History) → choice.acts ≤ length history.acts
    → (settled (moment_of choice history.acts) ≡ true → MayList choice history.start (moment_of choice history.acts))
    → (image : Files) × Describes choice history image
describes_some choice history within listed = by_settled (settled (moment_of choice history.acts)) refl where
  by_settled : (b : Bool) → settled (moment_of choice history.acts) ≡ b → (image : Files) × Describes choice history image
  by_settled true e =
      let acts = moment_of choice history.acts in
      let image = image_left choice history.start acts in (
        image,
        record {
          moment = within;
          chosen = record { before = λ z. absurd (let no : ⊥ = cc in no); after = λ z. chosen_files choice history.start acts };
          is_image = image_of history.start acts image e (chosen_leaves choice history.start acts (listed e));
        },
      )
  by_settled false e = (
    history.start,
    record {
      moment = within;
      chosen = record { before = λ z. refl; after = λ z. absurd (let no : ⊥ = cc in no) };
      is_image = start_is_image history.start (moment_of choice history.acts) e;
    },
  )

-- and only there
pub describes_listed : (choice : Choice) (history : History) (image : Files) → Describes choice history image
    → settled (moment_of choice history.acts) ≡ true → MayList choice history.start (moment_of choice history.acts)
describes_listed choice history image d s q listed e =
    let acts = moment_of choice history.acts in
    subst (MayLeave (fate_of history.start acts q))
    ((d.chosen.after s).segments q ∙ ap (segment_left choice.took (fate_of history.start acts q)) e)
    ((d.is_image.after s).segments q)

-- one image at most
pub chooses_one : (choice : Choice) (start : Files) (moment : List Act) (a b : Files) → Chooses choice start moment a → Chooses choice start moment b → a ≡ b
chooses_one choice start moment a b da db = by_settled (settled moment) refl where
  by_settled : (t : Bool) → settled moment ≡ t → a ≡ b
  by_settled true e =
      let ca = da.after e in
      let cb = db.after e in
      same_files a b (ca.config ∙ sym cb.config) (ca.nonce ∙ sym cb.nonce) (ca.readme ∙ sym cb.readme) (λ q. ca.segments q ∙ sym (cb.segments q))
  by_settled false e = da.before e ∙ sym (db.before e)

pub describes_one : (choice : Choice) (history : History) (a b : Files) → Describes choice history a → Describes choice history b → a ≡ b
describes_one choice history a b da db = chooses_one choice history.start (moment_of choice history.acts) a b da.chosen db.chosen
