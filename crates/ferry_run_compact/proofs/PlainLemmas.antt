-- Plain files in a compaction: which acts put one in doubt, and the settings that a stop leaves.
use Rattle.std.proofs.Common.{◌≡◌, inl, inr, ℕ, Bool, true, false, List, [], ◌∷◌, Option, Some, None}
use Rattle.std.proofs.Common.{fold, refl, sym, ◌∙◌, ap}
use Rattle.ferry_disk.specs.Act.{Act, AppendTo, History, RemoveOf, ReplaceBy, SettleAll, Step, SyncOf, TellOf, applied, files_now}
use Rattle.ferry_disk.specs.Files.{Files, file_at}
use Rattle.ferry_disk.specs.Image.{ImageOf, MayStand, PlainFate, plain_after, plain_in, plain_of, settled}
use Rattle.ferry_disk.specs.declared.name.Name.{Name}
use Rattle.ferry_disk.specs.declared.name.Name.TheVariants.{Config as ConfigFile, Nonce as NonceFile, Readme, Segment}
use Rattle.ferry_write.specs.Session.{rests_at}

-- no act puts a segment's plain fate in doubt
segment_next : (file : Option (List ℕ)) (n : ℕ) (step : Step) (done : Bool)
    → plain_after (Segment n) (rests_at file) (record { step = step; done = done }) ≡ rests_at file
segment_next file n (AppendTo k bytes) done = refl
segment_next file n (SyncOf k) done = refl
segment_next file n (RemoveOf k) done = refl
segment_next file n (ReplaceBy ConfigFile bytes) done = refl
segment_next file n (ReplaceBy NonceFile bytes) done = refl
segment_next file n (ReplaceBy Readme bytes) done = refl
segment_next file n (ReplaceBy (Segment k) bytes) done = refl
segment_next file n SettleAll true = refl
segment_next file n SettleAll false = refl
segment_next file n (TellOf line) done = refl

segment_rests : (file : Option (List ℕ)) (n : ℕ) (acts : List Act) → fold (plain_after (Segment n)) (rests_at file) acts ≡ rests_at file
segment_rests file n [] = refl
segment_rests file n (act ∷ acts) =
    ap (λ (fate : PlainFate). fold (plain_after (Segment n)) fate acts) (segment_next file n act.step act.done) ∙ segment_rests file n acts

pub segment_plain : (h : History) (n : ℕ) → plain_in h (Segment n) ≡ rests_at (file_at h.start (Segment n))
unfolding plain_of
segment_plain h n = segment_rests (file_at h.start (Segment n)) n h.acts

-- at the begin of a run nothing of a plain file is in doubt
pub plain_begun : (h : History) (name : Name) → h.acts ≡ [] → plain_in h name ≡ rests_at (file_at h.start name)
unfolding plain_of
plain_begun h name e = ap (λ (acts : List Act). plain_of (file_at h.start name) acts name) e

files_begun : (h : History) → h.acts ≡ [] → files_now h ≡ h.start
files_begun h e = ap (λ (acts : List Act). applied h.start acts) e

rest_stands : (file image : Option (List ℕ)) (fate : PlainFate) → fate ≡ rests_at file → MayStand fate image → image ≡ file
rest_stands file image fate e (inl is) = is ∙ ap (λ (f : PlainFate). f.read) e
rest_stands file image fate e (inr is) =
    let none : fate.perhaps ≡ None = ap (λ (f : PlainFate). f.perhaps) e in
    let both : None ≡ Some is.0 = sym none ∙ is.1 in absurd (let no : ⊥ = cc in no)

-- the settings that a stop leaves at a moment at which they are those of the begin
pub config_left : (h g : History) → h.acts ≡ [] → g.start ≡ h.start → plain_in g ConfigFile ≡ rests_at h.start.config → (image : Files) → ImageOf g image
    → image.config ≡ (files_now h).config
config_left h g e start rest image is = by_settled (settled g.acts) refl where
  by_settled : (b : Bool) → settled g.acts ≡ b → image.config ≡ (files_now h).config
  by_settled true s =
      rest_stands h.start.config image.config (plain_in g ConfigFile) rest (is.after s).config ∙ ap (λ (f : Files). f.config) (sym (files_begun h e))
  by_settled false s = ap (λ (f : Files). f.config) (is.before s ∙ (start ∙ sym (files_begun h e)))
