-- Which image a choice describes: a moment of a run, and of each file that a stop leaves there.
use Rattle.std.specs.Prelude.{◌≡◌, ℕ, ◌≤◌, nat_eq, Bool, true, false, ◌&&◌, if◌then◌else◌, List, [], ◌++◌, length, take, Option, Some, None}
use Rattle.std.specs.Prelude.{unwrap_or, option_map}
use Rattle.std.specs.Option.{option_or}
use Rattle.std.specs.Map.{lookup}
use Rattle.std.specs.FinMap.{get}
use Rattle.ferry_disk.specs.Act.{Act, History}
use Rattle.ferry_disk.specs.Files.{Files}
use Rattle.ferry_disk.specs.Image.{Fate, PlainFate, fate_of, plain_of, MayLeave, settled, IsImage}
use Rattle.ferry_disk.specs.Moments.{last_undone}
use Rattle.ferry_disk.specs.declared.choice.Choice.{Choice}
use Rattle.ferry_disk.specs.declared.name.Name.TheVariants.{Config, Nonce, Readme}

-- the acts of the moment
abbrev pub moment_of : Choice → List Act → List Act
moment_of choice acts = if choice.cut then last_undone (take choice.acts acts) else take choice.acts acts

-- what is listed of a segment
abbrev pub tail_of : Choice → ℕ → Option (Option (List ℕ))
tail_of choice segment = option_map (λ tail. option_map (λ v. v.items) tail) (lookup (nat_eq segment) choice.tails.items)

-- what is left of `config`, `nonce` or `README`
abbrev pub plain_left : Bool → PlainFate → Option (List ℕ)
plain_left took fate = if took then option_or fate.perhaps fate.read else fate.read

-- what is left of a segment
abbrev pub segment_left : Bool → Fate → Option (Option (List ℕ)) → Option (List ℕ)
segment_left took fate None = if took && fate.lost then None else fate.stable
segment_left took fate (Some None) = None
segment_left took fate (Some (Some tail)) = Some (unwrap_or fate.stable [] ++ tail)

-- what is left of each file, once a Settle is done
pub record ChoosesFiles (choice : Choice) (start : Files) (moment : List Act) (image : Files) : Type 0 where
  pub config : image.config ≡ plain_left choice.took (plain_of start.config moment Config)
  pub nonce : image.nonce ≡ plain_left choice.took (plain_of start.nonce moment Nonce)
  pub readme : image.readme ≡ plain_left choice.took (plain_of start.readme moment Readme)
  pub segments : (segment : ℕ) → get image.segments segment ≡ segment_left choice.took (fate_of start moment segment) (tail_of choice segment)

-- The files that a choice describes, of the acts of its moment.
pub record Chooses (choice : Choice) (start : Files) (moment : List Act) (image : Files) : Type 0 where
  pub before : settled moment ≡ false → image ≡ start
  pub after : settled moment ≡ true → ChoosesFiles choice start moment image

-- What a choice lists of each segment may be left of it.
abbrev pub MayList : Choice → Files → List Act → Type 0
MayList choice start moment = (segment : ℕ) (listed : Option (List ℕ)) → tail_of choice segment ≡ Some listed
    → MayLeave (fate_of start moment segment) (segment_left choice.took (fate_of start moment segment) (Some listed))

-- A choice describes an image of a moment of the run.
pub record Describes (choice : Choice) (history : History) (image : Files) : Type 0 where
  pub moment : choice.acts ≤ length history.acts
  pub chosen : Chooses choice history.start (moment_of choice history.acts) image
  pub is_image : IsImage history.start (moment_of choice history.acts) image
