-- Lemmas on the lines of specs/Telling.antt: which names they tell.
use Rattle.std.proofs.Common.{◌≡◌, ◌⊎◌, inl, inr, ℕ, Bool, List, [], ◌∷◌, ◌++◌, refl, sym, ◌∙◌, ap, subst, append_assoc}
use Rattle.std.proofs.lemmas.List.{append-nil}
use Rattle.ferry_disk.specs.Act.{History}
use Rattle.ferry_manifest.specs.Manifest.Text.{ManifestText}
use Rattle.ferry_stops.specs.Tells.{lines_of}
use Rattle.ferry_carry.proofs.ThereLemmas.{Extends, tells_behind}
use Rattle.ferry_carry.specs.Counting.{TellsNew}
use Rattle.ferry_carry.specs.Lines.{name_line, told_of, total_line}
use Rattle.ferry_piece.specs.Puts.{Addition}
use Rattle.ferry_carry.specs.Telling.{AreLines, IsReport, TellsWhole}
use Rattle.ferry_carry.specs.declared.options.Carried.{Carried}

-- ---- lines of names

lines_both : (accepted : ManifestText) (before lines more names others : List (List ℕ)) → AreLines accepted before lines names
    → AreLines accepted (before ++ names) more others → AreLines accepted before (lines ++ more) (names ++ others)
lines_both accepted before [] more [] others p q = subst (λ (b : List (List ℕ)). AreLines accepted b more others) (append-nil before) q
lines_both accepted before [] more (name ∷ names) others p q = absurd p
lines_both accepted before (line ∷ lines) more [] others p q = absurd p
lines_both accepted before (line ∷ lines) more (name ∷ names) others p q = (
  p.0,
  lines_both accepted (before ++ name ∷ []) lines more names others p.1
      (subst (λ (b : List (List ℕ)). AreLines accepted b more others) (sym (append_assoc before (name ∷ []) names)) q),
)

lines_behind : (accepted middle : ManifestText) (some before lines names : List (List ℕ)) → Extends accepted some middle
    → AreLines middle before lines names → AreLines accepted (some ++ before) lines names
lines_behind accepted middle some before [] [] extends are = tt
lines_behind accepted middle some before [] (name ∷ names) extends are = absurd are
lines_behind accepted middle some before (line ∷ lines) [] extends are = absurd are
lines_behind accepted middle some before (line ∷ lines) (name ∷ names) extends are = (
  (are.0.0, (are.0.1.0, tells_behind accepted middle some before name are.0.0 extends are.0.1.1)),
  subst (λ (b : List (List ℕ)). AreLines accepted b lines names) (sym (append_assoc some before (name ∷ [])))
      (lines_behind accepted middle some (before ++ name ∷ []) lines names extends are.1),
)

-- lines of some names, and of others beside what is accepted behind them
pub lines_then : (accepted middle : ManifestText) (lines more some others : List (List ℕ)) → Extends accepted some middle → AreLines accepted [] lines some
    → AreLines middle [] more others → AreLines accepted [] (lines ++ more) (some ++ others)
lines_then accepted middle lines more some others extends are behind =
    lines_both accepted [] lines more some others are
    (subst (λ (b : List (List ℕ)). AreLines accepted b more others) (append-nil some) (lines_behind accepted middle some [] more others extends behind))

-- ---- reports

pub report_none : (accepted : ManifestText) (done : List (List ℕ)) → IsReport accepted [] done
report_none accepted done = record { told = []; more = done; reported = []; last = []; split = refl; are = tt; front = refl; total = tt }

-- behind lines that tell other names
pub report_then : (accepted middle : ManifestText) (lines more some done : List (List ℕ)) → Extends accepted some middle → AreLines accepted [] lines some
    → IsReport middle more done → IsReport accepted (lines ++ more) (some ++ done)
report_then accepted middle lines more some done extends are r = record {
  told = some ++ r.told;
  more = r.more;
  reported = lines ++ r.reported;
  last = r.last;
  split = ap (λ (l : List (List ℕ)). lines ++ l) r.split ∙ sym (append_assoc lines r.reported r.last);
  are = lines_then accepted middle lines r.reported some r.told extends are r.are;
  front = ap (λ (l : List (List ℕ)). some ++ l) r.front ∙ sym (append_assoc some r.told r.more);
  total = r.total;
}

-- a line of a name, perhaps
pub report_one : (accepted : ManifestText) (copied : Bool) (name : List ℕ) (lines done : List (List ℕ)) → TellsNew accepted [] name copied
    → (lines ≡ []) ⊎ (lines ≡ name_line (told_of copied) name ∷ []) → IsReport accepted lines (name ∷ done)
report_one accepted copied name lines done new (inl none) =
    subst (λ (l : List (List ℕ)). IsReport accepted l (name ∷ done)) (sym none) (report_none accepted (name ∷ done))
report_one accepted copied name lines done new (inr one) =
    subst (λ (l : List (List ℕ)). IsReport accepted l (name ∷ done)) (sym one) (record {
      told = name ∷ [];
      more = done;
      reported = name_line (told_of copied) name ∷ [];
      last = [];
      split = refl;
      are = ((copied, (refl, new)), tt);
      front = refl;
      total = tt;
    })

-- the line of the whole, perhaps
pub report_whole : (accepted : ManifestText) (carried : Carried) (lines done : List (List ℕ)) → (lines ≡ []) ⊎ (lines ≡ total_line carried ∷ [])
    → IsReport accepted lines done
report_whole accepted carried lines done (inl none) = subst (λ (l : List (List ℕ)). IsReport accepted l done) (sym none) (report_none accepted done)
report_whole accepted carried lines done (inr one) =
    subst (λ (l : List (List ℕ)). IsReport accepted l done) (sym one) (record {
      told = [];
      more = done;
      reported = [];
      last = total_line carried ∷ [];
      split = refl;
      are = tt;
      front = refl;
      total = (carried, refl);
    })

-- all lines of a run that told all names and the whole
pub whole_report : (accepted : ManifestText) (names : List (List ℕ)) (added : List Addition) (carried : Carried) (h g : History)
    → lines_of h.acts ≡ [] → TellsWhole accepted names added carried h g → IsReport accepted (lines_of g.acts) names
whole_report accepted names added carried h g none t = record {
  told = names;
  more = [];
  reported = t.1.0;
  last = total_line carried ∷ [];
  split = t.1.1.0 ∙ ap (λ (l : List (List ℕ)). l ++ (t.1.0 ++ total_line carried ∷ [])) none;
  are = t.1.1.1;
  front = sym (append-nil names);
  total = (carried, refl);
}
