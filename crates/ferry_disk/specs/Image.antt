-- What a stop of the machine may leave of a repository's files: the images of the acts of a run, by five rules, file by file.
-- A moment of a run is a front of its acts, also with its last act taken as not done (specs/Moments.antt); the images of a moment
-- are those of its acts.
use Rattle.std.specs.Prelude.{◌≡◌, ℕ, ◌≤◌, nat_eq, Bool, true, false, ◌&&◌, if◌then◌else◌, ◌⊎◌, List, [], ◌∷◌, ◌++◌, length, fold}
use Rattle.std.specs.Prelude.{Option, Some, None, unwrap_or, refl}
use Rattle.std.specs.FinMap.{get}
use Rattle.std.specs.List.{list_any}
use Rattle.ferry_disk.specs.Act.{Step, AppendTo, SyncOf, RemoveOf, ReplaceBy, SettleAll, TellOf, Act, did, undone, History}
use Rattle.ferry_disk.specs.Files.{Files, file_at}
use Rattle.ferry_disk.specs.declared.name.Name.{Name}
use Rattle.ferry_disk.specs.declared.name.Name.TheVariants.{Config, Nonce, Readme}

-- ---- 1. `config`, `nonce` and `README` have the contents of their last done Replace, or those of the start; where the last
-- Replace isn't done, either the earlier contents or the new ones stand.

-- what a stop may leave of such a file
pub record PlainFate : Type 0 where
  -- what a read gives
  pub read : Option (List ℕ)
  -- what a Replace that isn't done would have put
  pub perhaps : Option (List ℕ)

abbrev pub same_name : Name → Name → Bool
same_name Config Config = true
same_name Nonce Nonce = true
same_name Readme Readme = true
same_name name other = false

abbrev pub plain_replaced : List ℕ → Bool → PlainFate → PlainFate
plain_replaced bytes true fate = record { read = Some bytes; perhaps = None }
plain_replaced bytes false fate = record { read = fate.read; perhaps = Some bytes }

-- a Settle that is done leaves no doubt
abbrev pub plain_settled : Bool → PlainFate → PlainFate
plain_settled done fate = if done then record { read = fate.read; perhaps = None } else fate

abbrev pub plain_stepped : Name → Step → Bool → PlainFate → PlainFate
plain_stepped name (ReplaceBy other bytes) done fate = if same_name name other then plain_replaced bytes done fate else fate
plain_stepped name SettleAll done fate = plain_settled done fate
plain_stepped name step done fate = fate

abbrev pub plain_after : Name → PlainFate → Act → PlainFate
plain_after name fate act = plain_stepped name act.step act.done fate

-- such a file after these acts
unfoldable pub plain_of : Option (List ℕ) → List Act → Name → PlainFate
plain_of file acts name = fold (plain_after name) (record { read = file; perhaps = None }) acts

-- the file is what a read gives, or what a Replace that isn't done would have put
abbrev pub MayStand : PlainFate → Option (List ℕ) → Type 0
MayStand fate file = (file ≡ fate.read) ⊎ ((bytes : List ℕ) × (fate.perhaps ≡ Some bytes) × (file ≡ Some bytes))

-- Example: "1" at the start, a Replace by "2" that is done and one by "3" that isn't: "2" or "3" stands. A Settle would leave "2".
pub replaced_twice : plain_of (Some (49 ∷ [])) (did (ReplaceBy Nonce (50 ∷ [])) ∷ undone (ReplaceBy Nonce (51 ∷ [])) ∷ []) Nonce
    ≡ record { read = Some (50 ∷ []); perhaps = Some (51 ∷ []) }
unfolding plain_of
replaced_twice = refl

-- ---- 2. A segment has its stable bytes, followed by any bytes, and isn't longer than its bytes in the start and all that was
-- appended to it together, appends that aren't done included. Stable are its bytes at the last done Sync or Settle, and its bytes
-- in the start.

-- what a stop may leave of a segment
pub record Fate : Type 0 where
  -- what a read gives
  pub read : Option (List ℕ)
  -- its stable bytes; none: there is no stable file
  pub stable : Option (List ℕ)
  -- its bytes at the start or the last done Settle and all that was appended since, done or not; none: it was never made
  pub all : Option (List ℕ)
  -- a Remove that isn't done may have happened
  pub lost : Bool

-- a segment of which nothing is in doubt
abbrev pub at_rest : Option (List ℕ) → Fate
at_rest bytes = record { read = bytes; stable = bytes; all = bytes; lost = false }

abbrev pub fate_appended : List ℕ → Bool → Fate → Fate
fate_appended bytes done fate = record fate {
  read = if done then Some (unwrap_or fate.read [] ++ bytes) else fate.read;
  all = Some (unwrap_or fate.all [] ++ bytes);
}

abbrev pub fate_synced : Bool → Fate → Fate
fate_synced done fate = record fate { stable = if done then fate.read else fate.stable }

-- ---- 3. A segment that was created in this run and has no stable bytes may be absent: there is no stable file.
-- ---- 4. A done Remove is final; a Remove that isn't done has either happened or not.

abbrev pub fate_removed : Bool → Fate → Fate
fate_removed done fate = if done then at_rest None else record fate { lost = true }

-- ---- 5. At the moment of a done Settle the only image is what a read gives.

abbrev pub fate_settled : Bool → Fate → Fate
fate_settled done fate = if done then at_rest fate.read else fate

-- ---- the fate of a segment

abbrev pub fate_stepped : ℕ → Step → Bool → Fate → Fate
fate_stepped segment (AppendTo number bytes) done fate = if nat_eq segment number then fate_appended bytes done fate else fate
fate_stepped segment (SyncOf number) done fate = if nat_eq segment number then fate_synced done fate else fate
fate_stepped segment (RemoveOf number) done fate = if nat_eq segment number then fate_removed done fate else fate
fate_stepped segment (ReplaceBy name bytes) done fate = fate
fate_stepped segment SettleAll done fate = fate_settled done fate
fate_stepped segment (TellOf line) done fate = fate

abbrev pub fate_after : ℕ → Fate → Act → Fate
fate_after segment fate act = fate_stepped segment act.step act.done fate

-- a segment after these acts, of what it had at the start
abbrev pub fate_from : Option (List ℕ) → List Act → ℕ → Fate
fate_from bytes acts segment = fold (fate_after segment) (at_rest bytes) acts

unfoldable pub fate_of : Files → List Act → ℕ → Fate
fate_of start acts segment = fate_from (get start.segments segment) acts segment

-- The stable bytes, followed by any, and no more than all.
pub record Continues (fate : Fate) (bytes : List ℕ) : Type 0 where
  pub tail : List ℕ
  pub stable_first : bytes ≡ unwrap_or fate.stable [] ++ tail
  pub all : List ℕ
  pub made : fate.all ≡ Some all
  pub within : length bytes ≤ length all

-- a segment may be absent, and may have these bytes
abbrev pub MayLeave : Fate → Option (List ℕ) → Type 0
MayLeave fate None = (fate.stable ≡ None) ⊎ (fate.lost ≡ true)
MayLeave fate (Some bytes) = Continues fate bytes

-- Examples, of segment 7 with "a" at the start.
-- Rule 2: Append "b", Sync, and an Append of "c" that isn't done: "ab", and perhaps one byte more, which may be any.
pub appended_and_synced : fate_from (Some (97 ∷ [])) (did (AppendTo 7 (98 ∷ [])) ∷ did (SyncOf 7) ∷ undone (AppendTo 7 (99 ∷ [])) ∷ []) 7
    ≡ record { read = Some (97 ∷ 98 ∷ []); stable = Some (97 ∷ 98 ∷ []); all = Some (97 ∷ 98 ∷ 99 ∷ []); lost = false }
appended_and_synced = refl

-- Rule 3: a segment that wasn't there, and an Append of "b": absent, or there with no byte or with one, which may be any.
pub created : fate_from None (did (AppendTo 7 (98 ∷ [])) ∷ []) 7 ≡ record { read = Some (98 ∷ []); stable = None; all = Some (98 ∷ []); lost = false }
created = refl

-- Rule 4: a done Remove leaves no file. One that isn't done: "a" or no file.
pub removed_for_good : fate_from (Some (97 ∷ [])) (did (RemoveOf 7) ∷ []) 7 ≡ at_rest None
removed_for_good = refl

pub perhaps_removed : fate_from (Some (97 ∷ [])) (undone (RemoveOf 7) ∷ []) 7 ≡ record (at_rest (Some (97 ∷ []))) { lost = true }
perhaps_removed = refl

-- Rule 5: a Remove and an Append of "b" that aren't done, an Append of "c", and a Settle: "ac".
pub settled_at_last : fate_from (Some (97 ∷ []))
    (undone (RemoveOf 7) ∷ undone (AppendTo 7 (98 ∷ [])) ∷ did (AppendTo 7 (99 ∷ [])) ∷ did SettleAll ∷ []) 7 ≡ at_rest (Some (97 ∷ 99 ∷ []))
settled_at_last = refl

-- ---- images

abbrev pub is_settle : Step → Bool
is_settle SettleAll = true
is_settle step = false

-- whether a Settle of this run is done
abbrev pub settled : List Act → Bool
settled acts = list_any (λ act. act.done && is_settle act.step) acts

-- each file is what its fate may leave
pub record Leaves (start : Files) (acts : List Act) (image : Files) : Type 0 where
  pub config : MayStand (plain_of start.config acts Config) image.config
  pub nonce : MayStand (plain_of start.nonce acts Nonce) image.nonce
  pub readme : MayStand (plain_of start.readme acts Readme) image.readme
  pub segments : (segment : ℕ) → MayLeave (fate_of start acts segment) (get image.segments segment)

-- An image of these acts: until a run's first Settle is done, its start alone.
pub record IsImage (start : Files) (acts : List Act) (image : Files) : Type 0 where
  pub before : settled acts ≡ false → image ≡ start
  pub after : settled acts ≡ true → Leaves start acts image

-- ---- over a history

abbrev pub fate_in : History → ℕ → Fate
fate_in history segment = fate_of history.start history.acts segment

abbrev pub plain_in : History → Name → PlainFate
plain_in history name = plain_of (file_at history.start name) history.acts name

abbrev pub ImageOf : History → Files → Type 0
ImageOf history image = IsImage history.start history.acts image
