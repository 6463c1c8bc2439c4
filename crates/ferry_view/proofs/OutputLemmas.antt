-- Lemmas on specs/Output.antt: text that is gathered and goes out.
use Rattle.std.proofs.Common.{◌≡◌, ℕ, List, [], ◌++◌, length, take, drop, Option, Some, None, Result, Ok, Err, OnOk, OnErr}
use Rattle.std.proofs.Common.{IfSome, false, option_map, refl, sym, ◌∙◌, ap, arith}
use Rattle.std.proofs.lemmas.List.{append_assoc, append-nil, take-append-drop, take_at, take_all}
use Rattle.ferry_disk.specs.Device.{Told, told_files, heard, WritesSome, sink_failed}
use Rattle.ferry_disk.specs.Files.{Files}
use Rattle.ferry_disk.proofs.DeviceLemmas.{told_with}
use Rattle.ferry_disk.specs.declared.sink.SinkFault.{SinkFault}
use Rattle.ferry_disk.specs.declared.sink.SinkFault.TheVariants as Sink
use Rattle.ferry_repo.specs.Fault.{repo_failed}
use Rattle.ferry_repo.specs.declared.fault.RepoFault.{RepoFault}
use Rattle.ferry_repo.specs.declared.fault.RepoFault.TheVariants as Fault
use Rattle.ferry_view.specs.Output.{Sends, ShowsAll, ShowsSome, sink_fault, repo_fault, view_failed, shelf_failed}

-- a fault of the output is one of the view
pub failed_sink : (fault : SinkFault) → view_failed (sink_fault fault) ≡ sink_failed fault
failed_sink Sink.Failed = refl
failed_sink Sink.Memory = refl

-- and not one of the repository's device
pub sink_apart : (fault : SinkFault) → shelf_failed (sink_fault fault) ≡ false
sink_apart Sink.Failed = refl
sink_apart Sink.Memory = refl

-- a fault of the repository is its device's where it was so
pub failed_repo : (fault : RepoFault) → shelf_failed (repo_fault fault) ≡ repo_failed fault
failed_repo Fault.NoCommit = refl
failed_repo (Fault.Damaged segment at) = refl
failed_repo (Fault.Config f) = refl
failed_repo (Fault.Key f) = refl
failed_repo (Fault.Missing id) = refl
failed_repo (Fault.Blob id f) = refl
failed_repo (Fault.Manifest f) = refl
failed_repo (Fault.Archive id f) = refl
failed_repo (Fault.Item id f) = refl
failed_repo (Fault.Size id) = refl
failed_repo (Fault.KeyFile fault) = refl
failed_repo (Fault.Other file config) = refl
failed_repo Fault.NoKey = refl
failed_repo Fault.Device = refl
failed_repo Fault.Memory = refl

-- and not one of the output
pub repo_apart : (fault : RepoFault) → view_failed (repo_fault fault) ≡ false
repo_apart Fault.NoCommit = refl
repo_apart (Fault.Damaged segment at) = refl
repo_apart (Fault.Config f) = refl
repo_apart (Fault.Key f) = refl
repo_apart (Fault.Missing id) = refl
repo_apart (Fault.Blob id f) = refl
repo_apart (Fault.Manifest f) = refl
repo_apart (Fault.Archive id f) = refl
repo_apart (Fault.Item id f) = refl
repo_apart (Fault.Size id) = refl
repo_apart (Fault.KeyFile fault) = refl
repo_apart (Fault.Other file config) = refl
repo_apart Fault.NoKey = refl
repo_apart Fault.Device = refl
repo_apart Fault.Memory = refl

pub ruleset conversions = (failed_sink, sink_apart, failed_repo, repo_apart)

pub more_none : (o : Option (List ℕ)) → o ≡ option_map (λ w. w ++ []) o
more_none None = refl
more_none (Some w) = ap Some (sym (append-nil w))

pub more_twice : (o : Option (List ℕ)) (a b : List ℕ) → option_map (λ w. w ++ b) (option_map (λ w. w ++ a) o) ≡ option_map (λ w. w ++ (a ++ b)) o
more_twice None a b = refl
more_twice (Some w) a b = ap Some (append_assoc w a b)

-- nothing is gathered yet
pub sends_none : (old : Option (List ℕ)) → Sends old old [] []
sends_none old = record { sent = []; written = more_none old; whole = refl }

-- nothing has gone out
pub sends_all_gathered : (old : Option (List ℕ)) (text : List ℕ) → Sends old old text text
sends_all_gathered old text = record { sent = []; written = more_none old; whole = refl }

-- more is gathered
pub sends_more : (old now : Option (List ℕ)) (gathered text more : List ℕ) → Sends old now gathered text → Sends old now (gathered ++ more) (text ++ more)
sends_more old now gathered text more h = record
    { sent = h.sent; written = h.written; whole = sym (append_assoc h.sent gathered more) ∙ ap (λ k. k ++ more) h.whole }

-- a part of what is gathered goes out
pub sends_then : (old now after : Option (List ℕ)) (gathered left text : List ℕ) → Sends old now gathered text → Sends now after left gathered
    → Sends old after left text
sends_then old now after gathered left text h g = record {
  sent = h.sent ++ g.sent;
  written = g.written ∙ (ap (option_map (λ k. k ++ g.sent)) h.written ∙ more_twice old h.sent g.sent);
  whole = append_assoc h.sent g.sent left ∙ (ap (λ k. h.sent ++ k) g.whole ∙ h.whole);
}

-- all that is gathered has gone out
pub sent_all : (old now after : Option (List ℕ)) (gathered text : List ℕ) → Sends old now gathered text → after ≡ option_map (λ w. w ++ gathered) now
    → after ≡ option_map (λ w. w ++ text) old
sent_all old now after gathered text h is = is
    ∙ (ap (option_map (λ k. k ++ gathered)) h.written ∙ (more_twice old h.sent gathered ∙ ap (λ t. option_map (λ k. k ++ t) old) h.whole))

pub sends_emptied : (old now : Option (List ℕ)) (text : List ℕ) → now ≡ option_map (λ w. w ++ text) old → Sends old now [] text
sends_emptied old now text is = record { sent = text; written = is; whole = append-nil text }

-- a front of what is written is a front of all of the text
front_of : (a b c : List ℕ) (n : ℕ) → a ++ take n b ≡ take (length (a ++ take n b)) (a ++ (b ++ c))
front_of a b c n =
    let whole : a ++ (b ++ c) ≡ (a ++ take n b) ++ (drop n b ++ c) =
    ap (λ k. a ++ (k ++ c)) (sym (take-append-drop n b))
    ∙ (ap (λ k. a ++ k) (append_assoc (take n b) (drop n b) c) ∙ sym (append_assoc a (take n b) (drop n b ++ c))) in
    sym (ap (take (length (a ++ take n b))) whole ∙ take_at (a ++ take n b) (drop n b ++ c) _ refl)

-- a front of what is gathered has gone out, and more text was to come
pub sent_some : (old now after : Option (List ℕ)) (gathered text more : List ℕ) → Sends old now gathered text → WritesSome now gathered after
    → WritesSome old (text ++ more) after
sent_some old now after gathered text more h some =
    let n = some.front in
    let whole : text ++ more ≡ h.sent ++ (gathered ++ more) = ap (λ k. k ++ more) (sym h.whole) ∙ append_assoc h.sent gathered more in
    record {
      front = length (h.sent ++ take n gathered);
      written = some.written
          ∙ (ap (option_map (λ k. k ++ take n gathered)) h.written
          ∙ (more_twice old h.sent (take n gathered)
          ∙ ap (λ t. option_map (λ k. k ++ t) old) (front_of h.sent gathered more n ∙ ap (take (length (h.sent ++ take n gathered))) (sym whole))));
    }

-- nothing more goes out
pub sent_still : (old now : Option (List ℕ)) (gathered text more : List ℕ) → Sends old now gathered text → WritesSome old (text ++ more) now
sent_still old now gathered text more h = sent_some old now now gathered text more h (record { front = 0; written = more_none now })

-- nothing of a text was written
pub writes_none : (out : Option (List ℕ)) (text : List ℕ) → WritesSome out text out
writes_none out text = record { front = 0; written = more_none out }

-- a text that was written whole is one of which a front was
pub writes_all : (old out : Option (List ℕ)) (text : List ℕ) → out ≡ option_map (λ w. w ++ text) old → WritesSome old text out
writes_all old out text is = record {
  front = length text;
  written = is ∙ ap (λ t. option_map (λ w. w ++ t) old) (sym (take_all (length text) text (omega arith)));
}

pub on_ok : {A E : Type 0} (r : Result A E) (P Q : Type 0) → (P → Q) → OnOk r P → OnOk r Q
on_ok (Ok v) P Q f p = f p
on_ok (Err e) P Q f p = tt

pub on_err : {A E : Type 0} (r : Result A E) (P Q : Type 0) → (P → Q) → OnErr r P → OnErr r Q
on_err (Ok v) P Q f p = tt
on_err (Err e) P Q f p = f p

-- what holds at any answer
pub err_holds : {A E : Type 0} (r : Result A E) (P : Type 0) → P → OnErr r P
err_holds (Ok v) P p = tt
err_holds (Err e) P p = p

-- ---- texts of what a shelf tells

-- a text that was written whole is one of which a front was
pub all_some : (IsText : Files → List ℕ → Type 0) (told : Option Told) (before after : Option (List ℕ)) → ShowsAll IsText told before after
    → ShowsSome IsText told before after
all_some IsText told before after all = record { text = all.text; is = all.is; written = writes_all before after all.text all.written }

-- what follows of a text of the files that a later call was told, with a fact that was known
pub map_all : (told later : Option Told) (P : Files → Type 0) (A B : Files → List ℕ → Type 0) (before after : Option (List ℕ))
    → heard later ≡ heard told → ((f : Files) (text : List ℕ) → P f → A f text → B f text) → IfSome told (λ t. P (told_files t))
    → ShowsAll A later before after → ShowsAll B told before after
map_all told later P A B before after same step p all = record {
  text = all.text;
  is = told_with told later P (λ f. A f all.text) (λ f. B f all.text) same (λ f. step f all.text) p all.is;
  written = all.written;
}

pub map_some : (told later : Option Told) (P : Files → Type 0) (A B : Files → List ℕ → Type 0) (before after : Option (List ℕ))
    → heard later ≡ heard told → ((f : Files) (text : List ℕ) → P f → A f text → B f text) → IfSome told (λ t. P (told_files t))
    → ShowsSome A later before after → ShowsSome B told before after
map_some told later P A B before after same step p some = record {
  text = some.text;
  is = told_with told later P (λ f. A f some.text) (λ f. B f some.text) same (λ f. step f some.text) p some.is;
  written = some.written;
}

-- a front of a text is a front of it with more behind
some_more : (before after : Option (List ℕ)) (text more : List ℕ) → WritesSome before text after → WritesSome before (text ++ more) after
some_more before after text more some = sent_some before before after text text more (sends_all_gathered before text) some

-- a front of a text was written, behind which more was to come of the files that a shelf tells
pub shows_more : (told : Option Told) (P : Files → Type 0) (A : Files → List ℕ → Type 0) (before after : Option (List ℕ)) (text : List ℕ)
    → ((f : Files) → P f → (more : List ℕ) × A f (text ++ more)) → IfSome told (λ t. P (told_files t)) → WritesSome before text after
    → ShowsSome A told before after
shows_more None P A before after text come p some = record { text = text; is = tt; written = some }
shows_more (Some t) P A before after text come p some =
    let m = come (told_files t) p in
    record { text = text ++ m.0; is = m.1; written = some_more before after text m.0 some }

-- nothing was written
pub shows_none : (told : Option Told) (P : Files → Type 0) (A : Files → List ℕ → Type 0) (before after : Option (List ℕ))
    → ((f : Files) → P f → (text : List ℕ) × A f text) → IfSome told (λ t. P (told_files t)) → after ≡ before → ShowsSome A told before after
shows_none told P A before after come p same =
    shows_more told P A before after [] come p (record { front = 0; written = same ∙ more_none before })
