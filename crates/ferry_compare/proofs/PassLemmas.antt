-- Lemmas on specs/Steps.antt: a cursor that passes bytes, over what the shelf of the target tells.
use Rattle.std.proofs.Common.{◌≡◌, ℕ, ◌+◌, ◌<◌, Bool, true, false, List, [], ◌++◌, length, take, drop, get_or, Option, Some, None, IfSome}
use Rattle.std.proofs.Common.{refl, sym, ◌∙◌, ap, subst}
use Rattle.std.proofs.Math.Seq.{take-add}
use Rattle.std.specs.Global.{Vec}
use Rattle.std.proofs.lemmas.List.{append_assoc, append-nil, take-append-drop}
use Rattle.ferry_disk.specs.Device.{Told, told_files, heard}
use Rattle.ferry_disk.proofs.DeviceLemmas.{told_then, told_with}
use Rattle.ferry_item.specs.declared.item.ChunkRef.{ChunkRef}
use Rattle.ferry_repo.specs.Archives.{HoldsContent, HoldsJoined}
use Rattle.ferry_repo.specs.Opening.{RepoState}
use Rattle.ferry_compare.specs.Steps.{CursorState, left_in, HasPassed, Strays, Passes, PassesOn, GivesContent, EndsContent, HoldsWhere}
use Rattle.ferry_compare.proofs.CursorLemmas.{cursor_at, passed_piece, strays_more, strays_piece, strays_end, strays_refused}
use Rattle.ferry_compare.proofs.CursorLemmas.{goes_on_piece, goes_on_chunk}
use Rattle.ferry_compare.proofs.StepLemmas.{at_first, at_last}

module _ (told : Option Told) (repo : RepoState) (others : List ChunkRef) where
  -- ---- one step

  -- the bytes differ from what is left of the piece
  pub piece_strays : (before after : CursorState) (bytes : List ℕ) → ((rest more : List ℕ) → bytes ++ rest ≡ left_in before ++ more → ⊥)
      → PassesOn told repo others before bytes false after
  piece_strays before after bytes differ done passed =
      told_then told (λ f. HasPassed f repo others before done) (λ f. Strays f repo others (done ++ bytes))
      (λ f p. strays_piece f repo others before done bytes differ p) passed

  -- all chunks were passed
  pub end_strays : (before after : CursorState) (bytes : List ℕ) → left_in before ≡ [] → before.next ≡ length others → 0 < length bytes
      → PassesOn told repo others before bytes false after
  end_strays before after bytes left next some done passed =
      told_then told (λ f. HasPassed f repo others before done) (λ f. Strays f repo others (done ++ bytes))
      (λ f p. strays_end f repo others before done bytes left next some p) passed

  -- no bytes stray, so none that begin with them do
  pub more_strays : (before after : CursorState) (bytes : List ℕ) → PassesOn told repo others before [] false after
      → PassesOn told repo others before bytes false after
  more_strays before after bytes strays done passed =
      told_then told (λ f. Strays f repo others (done ++ [])) (λ f. Strays f repo others (done ++ bytes))
      (λ f s. strays_more f repo others done bytes (subst (λ (d : List ℕ). Strays f repo others d) (append-nil done) s)) (strays done passed)

  -- one chunk more
  pub piece_passes : (before : CursorState) (d : ChunkRef) (piece : List ℕ) → left_in before ≡ [] → before.next < length others
      → IfSome told (λ t. HoldsContent (told_files t) repo.log repo.keys (get_or others before.next d) piece)
      → PassesOn told repo others before [] true (cursor_at (before.next + 1) piece 0)
  piece_passes before d piece left lt holds done passed =
      told_with told told (λ f. HoldsContent f repo.log repo.keys (get_or others before.next d) piece) (λ f. HasPassed f repo others before done)
      (λ f. HasPassed f repo others (cursor_at (before.next + 1) piece 0) (done ++ [])) refl
      (λ f h p. passed_piece f repo others before d piece done left lt h p) holds passed

  -- the piece that was found
  pub found_passes : (before : CursorState) (d : ChunkRef) (found : Option (Vec ℕ)) (piece : Vec ℕ) → found ≡ Some piece → left_in before ≡ []
      → before.next < length others
      → IfSome found (λ content. IfSome told (λ t. HoldsContent (told_files t) repo.log repo.keys (get_or others before.next d) content.items))
      → PassesOn told repo others before [] true (cursor_at (before.next + 1) piece.items 0)
  found_passes before d found piece is left lt holds =
      piece_passes before d piece.items left lt
      (subst (λ (o : Option (Vec ℕ)). IfSome o (λ content. IfSome told
      (λ t. HoldsContent (told_files t) repo.log repo.keys (get_or others before.next d) content.items))) is holds)

  pub refused_strays : (before after : CursorState) (d : ChunkRef) (bytes : List ℕ) → before.next < length others
      → IfSome told (λ t. GivesContent (told_files t) repo (get_or others before.next d) None) → PassesOn told repo others before bytes false after
  refused_strays before after d bytes lt none done passed =
      told_then told (λ f. GivesContent f repo (get_or others before.next d) None) (λ f. Strays f repo others (done ++ bytes))
      (λ f n. strays_refused f repo others before.next d (done ++ bytes) lt n) none

  -- ---- more than one

  pub then_passes : (later : Option Told) (after : RepoState) (first mid last : CursorState) (bytes more all : List ℕ) (same : Bool)
      → heard later ≡ heard told → after ≡ repo → all ≡ bytes ++ more → PassesOn told repo others first bytes true mid
      → PassesOn later after others mid more same last → PassesOn told repo others first all same last
  then_passes later after first mid last bytes more all same alike kept is passes next done passed =
      subst (λ (d : List ℕ). IfSome told (λ t. Passes same (told_files t) repo others last d))
      (append_assoc done bytes more ∙ ap (λ (s : List ℕ). done ++ s) (sym is))
      (at_first told later repo after (λ r f. Passes same f r others last ((done ++ bytes) ++ more)) alike kept
      (next (done ++ bytes) (at_last told later repo after (λ r f. HasPassed f r others mid (done ++ bytes)) alike kept (passes done passed))))

  -- bytes that were passed up to a place, and more from there
  pub taken_passes : (later : Option Told) (after : RepoState) (first mid last : CursorState) (bytes rest : List ℕ) (taken count : ℕ)
      → heard later ≡ heard told → after ≡ repo → rest ≡ drop taken bytes → PassesOn told repo others first (take taken bytes) true mid
      → PassesOn later after others mid (take count rest) true last → PassesOn told repo others first (take (taken + count) bytes) true last
  taken_passes later after first mid last bytes rest taken count alike kept is passes next =
      then_passes later after first mid last (take taken bytes) (take count rest) (take (taken + count) bytes) true alike kept
      (take-add taken count bytes ∙ ap (λ (r : List ℕ). take taken bytes ++ take count r) (sym is)) passes next

  pub taken_strays : (later : Option Told) (after : RepoState) (first mid last : CursorState) (bytes rest : List ℕ) (taken : ℕ)
      → heard later ≡ heard told → after ≡ repo → rest ≡ drop taken bytes → PassesOn told repo others first (take taken bytes) true mid
      → PassesOn later after others mid rest false last → PassesOn told repo others first bytes false last
  taken_strays later after first mid last bytes rest taken alike kept is passes next =
      then_passes later after first mid last (take taken bytes) rest bytes false alike kept
      (sym (take-append-drop taken bytes) ∙ ap (λ (r : List ℕ). take taken bytes ++ r) (sym is)) passes next

  pub still_strays : (done bytes : List ℕ) → IfSome told (λ t. Strays (told_files t) repo others done)
      → IfSome told (λ t. Strays (told_files t) repo others (done ++ bytes))
  still_strays done bytes strays =
      told_then told (λ f. Strays f repo others done) (λ f. Strays f repo others (done ++ bytes)) (λ f s. strays_more f repo others done bytes s) strays

  pub strays_ends : (done : List ℕ) → IfSome told (λ t. Strays (told_files t) repo others done)
      → IfSome told (λ t. HoldsWhere false (HoldsJoined (told_files t) repo.log repo.keys (Some others) (Some done)))
  strays_ends done strays =
      told_then told (λ f. Strays f repo others done) (λ f. HoldsWhere false (HoldsJoined f repo.log repo.keys (Some others) (Some done)))
      (λ f s h. s [] (subst (λ (d : List ℕ). HoldsJoined f repo.log repo.keys (Some others) (Some d)) (sym (append-nil done)) h)) strays

  -- ---- the end

  pub ends_next : (later : Option Told) (after : RepoState) (cursor : CursorState) (next : ℕ) (d : ChunkRef) (empty : Bool) → heard later ≡ heard told
      → after ≡ repo → next < length others → empty ≡ true
      → IfSome later (λ t. HoldsWhere empty (HoldsContent (told_files t) after.log after.keys (get_or others next d) []))
      → PassesOn told repo others cursor [] true (cursor_at next [] 0) → PassesOn told repo others cursor [] true (cursor_at (next + 1) [] 0)
  ends_next later after cursor next d empty alike kept lt is holds passes =
      then_passes told repo cursor (cursor_at next [] 0) (cursor_at (next + 1) [] 0) [] [] [] true refl refl refl passes
      (piece_passes (cursor_at next [] 0) d [] refl lt
      (at_first told later repo after (λ r f. HoldsContent f r.log r.keys (get_or others next d) []) alike kept
      (subst (λ (b : Bool). IfSome later (λ t. HoldsWhere b (HoldsContent (told_files t) after.log after.keys (get_or others next d) []))) is holds)))

  pub goes_past_piece : (cursor : CursorState) → 0 < length (left_in cursor) → EndsContent told repo others cursor false
  goes_past_piece cursor some done passed =
      told_then told (λ f. HasPassed f repo others cursor done)
      (λ f. HoldsWhere false (HoldsJoined f repo.log repo.keys (Some others) (Some done))) (λ f p. goes_on_piece f repo others cursor done some p) passed

  pub goes_past_chunk : (later : Option Told) (after : RepoState) (cursor : CursorState) (next : ℕ) (d : ChunkRef) (empty : Bool)
      → heard later ≡ heard told → after ≡ repo → next < length others → empty ≡ false
      → IfSome later (λ t. HoldsWhere empty (HoldsContent (told_files t) after.log after.keys (get_or others next d) []))
      → PassesOn told repo others cursor [] true (cursor_at next [] 0) → EndsContent told repo others cursor false
  goes_past_chunk later after cursor next d empty alike kept lt is none passes done passed =
      told_with told told (λ f. HoldsWhere false (HoldsContent f repo.log repo.keys (get_or others next d) []))
      (λ f. HasPassed f repo others (cursor_at next [] 0) (done ++ []))
      (λ f. HoldsWhere false (HoldsJoined f repo.log repo.keys (Some others) (Some done))) refl
      (λ f n p. goes_on_chunk f repo others next d done lt n p)
      (at_first told later repo after (λ r f. HoldsWhere false (HoldsContent f r.log r.keys (get_or others next d) [])) alike kept
      (subst (λ (b : Bool). IfSome later (λ t. HoldsWhere b (HoldsContent (told_files t) after.log after.keys (get_or others next d) []))) is none))
      (passes done passed)
