-- Lemmas on specs/Listing.antt and specs/Filling.antt: what is added for names, one behind another, and how far that came.
use Rattle.std.proofs.Common.{◌≡◌, ◌⊎◌, inl, inr, ℕ, Bool, true, false, List, [], ◌∷◌, ◌++◌, Option, Some, None, Ok, Err, Result, refl, sym, ◌∙◌, ap, subst}
use Rattle.std.proofs.Common.{append_assoc, IfErr, IfSome}
use Rattle.std.proofs.lemmas.List.{append-nil}
use Rattle.ferry_disk.specs.Device.{Told}
use Rattle.ferry_disk.specs.Moments.{Between}
use Rattle.ferry_mac.specs.declared.keys.Keys.{Keys}
use Rattle.ferry_manifest.specs.Manifest.Text.{ManifestText}
use Rattle.ferry_repo.specs.Opening.{repo_view}
use Rattle.ferry_repo.specs.declared.fault.RepoFault.{RepoFault}
use Rattle.ferry_store.specs.Commit.{accepted_in}
use Rattle.ferry_store.specs.declared.store.Store.{Store}
use Rattle.ferry_write.specs.Script.{AllDone}
use Rattle.ferry_carry.proofs.HeldLemmas.{heard_apart, heard_map, heard_to}
use Rattle.ferry_carry.proofs.ThereLemmas.{Extends, there_behind, there_or_not}
use Rattle.ferry_carry.specs.Carrying.{Origin}
use Rattle.ferry_carry.specs.Counting.{TellsNew}
use Rattle.ferry_piece.specs.Fault.{IsOfSource}
use Rattle.ferry_carry.specs.Filling.{FillsAll, FillsFlight, FillsName, FillsNames}
use Rattle.ferry_carry.specs.Flight.{BeginsDone, ListsDone}
use Rattle.ferry_carry.specs.Listing.{AddsName, BeginsName, BeginsNames, IsThere, ListsName, ListsNames, ListsOne}
use Rattle.ferry_carry.specs.Naming.{TaggedRecord}
use Rattle.ferry_piece.specs.Puts.{Addition}
use Rattle.ferry_carry.specs.Telling.{BeginsAll, CarriesNames, TellsNames}
use Rattle.ferry_piece.specs.declared.fault.CarryFault.{CarryFault}

-- ---- a name, and those behind it

-- All that is added for a name, and behind it something that is added for others.
abbrev ListsThen : Origin → Keys → ManifestText → List (List ℕ) → List ℕ → (List Addition → Type 0) → List Addition → Type 0
ListsThen from keys accepted before name Rest added = (one : List Addition) × ((rest : List Addition) × ((added ≡ one ++ rest)
    × (AddsName from keys accepted before name one × Rest rest)))

-- what is said by whether a name is there, behind names that came
there_or : {P Q : Type 0} (accepted middle : ManifestText) (some before : List (List ℕ)) (name : List ℕ) → Extends accepted some middle
    → (IsThere middle before name × P) ⊎ ((IsThere middle before name → ⊥) × Q)
    → (IsThere accepted (some ++ before) name × P) ⊎ ((IsThere accepted (some ++ before) name → ⊥) × Q)
there_or accepted middle some before name extends (inl is) = inl ((there_behind accepted middle some before name extends).0 is.0, is.1)
there_or accepted middle some before name extends (inr is) = inr (λ has. is.0 ((there_behind accepted middle some before name extends).1 has), is.1)

module _ (from : Origin) (keys : Keys) where
  -- what follows from what is said of the others
  rest_map : (accepted : ManifestText) (before : List (List ℕ)) (name : List ℕ) (P Q : List Addition → Type 0) (added : List Addition)
      → ((rest : List Addition) → P rest → Q rest) → ListsThen from keys accepted before name P added → ListsThen from keys accepted before name Q added
  rest_map accepted before name P Q added step p = (p.0, (p.1.0, (p.1.1.0, (p.1.1.1.0, step p.1.0 p.1.1.1.1))))

  -- and with more behind it
  rest_more : (accepted : ManifestText) (before : List (List ℕ)) (name : List ℕ) (P Q : List Addition → Type 0) (added more : List Addition)
      → ((rest : List Addition) → P rest → Q (rest ++ more)) → ListsThen from keys accepted before name P added
      → ListsThen from keys accepted before name Q (added ++ more)
  rest_more accepted before name P Q added more step p =
      (p.0, (p.1.0 ++ more, (ap (λ (l : List Addition). l ++ more) p.1.1.0 ∙ append_assoc p.0 p.1.0 more, (p.1.1.1.0, step p.1.0 p.1.1.1.1))))

  -- and behind names that came
  rest_behind : (accepted middle : ManifestText) (some before : List (List ℕ)) (name : List ℕ) (P Q : List Addition → Type 0) (added : List Addition)
      → Extends accepted some middle → ((rest : List Addition) → P rest → Q rest) → ListsThen from keys middle before name P added
      → ListsThen from keys accepted (some ++ before) name Q added
  rest_behind accepted middle some before name P Q added extends step p =
      (p.0, (p.1.0, (p.1.1.0, ((p.1.1.1.0.0, there_or accepted middle some before name extends p.1.1.1.0.1), step p.1.0 p.1.1.1.1))))

  -- all that is added for a name, and behind it all that is added for others
  listed_then : (accepted : ManifestText) (before : List (List ℕ)) (name : List ℕ) (names : List (List ℕ)) (records : List TaggedRecord)
      (added : List Addition) → ListsNames from keys accepted before (name ∷ names) records added
      → ListsThen from keys accepted before name
      (λ rest. (others : List TaggedRecord) × ListsNames from keys accepted (before ++ name ∷ []) names others rest) added
  listed_then accepted before name names records added p =
      let all = p.1.1.1 in (all.0, (all.1.0, (all.1.1.0, ((p.0, all.1.1.1.0), (p.1.0, all.1.1.1.1)))))

  -- all that is added for some names, and behind it something that is added for others
  names_both : (accepted : ManifestText) (X : List (List ℕ) → List (List ℕ) → List Addition → Type 0)
      → ((before : List (List ℕ)) (name : List ℕ) (names : List (List ℕ)) (added : List Addition)
      → ListsThen from keys accepted before name (X (before ++ name ∷ []) names) added → X before (name ∷ names) added)
      → (before names others : List (List ℕ)) (records : List TaggedRecord) (added more : List Addition)
      → ListsNames from keys accepted before names records added → X (before ++ names) others more → X before (names ++ others) (added ++ more)
  names_both accepted X step before [] others records added more none q =
      subst (λ (l : List Addition). X before others (l ++ more)) (sym none.1) (subst (λ (b : List (List ℕ)). X b others more) (append-nil before) q)
  names_both accepted X step before (name ∷ names) others records added more p q =
      let next = before ++ name ∷ [] in
      step before name (names ++ others) (added ++ more)
      (rest_more accepted before name (λ rest. (rs : List TaggedRecord) × ListsNames from keys accepted next names rs rest) (X next (names ++ others))
      added more (λ rest lists. names_both accepted X step next names others lists.0 rest more lists.1
      (subst (λ (b : List (List ℕ)). X b others more) (sym (append_assoc before (name ∷ []) names)) q))
      (listed_then accepted before name names records added p))

  -- ---- what is added for names

  -- behind names that came
  lists_behind : (accepted middle : ManifestText) (some before names : List (List ℕ)) (records : List TaggedRecord) (added : List Addition)
      → Extends accepted some middle → ListsNames from keys middle before names records added
      → ListsNames from keys accepted (some ++ before) names records added
  lists_behind accepted middle some before [] records added extends lists = lists
  lists_behind accepted middle some before (name ∷ names) records added extends lists =
      let next = before ++ name ∷ [] in
      let all = lists.1.1.1 in
      let others = lists.1.0 in (
        lists.0,
        (
          others,
          (
            lists.1.1.0,
            (
              all.0,
              (
                all.1.0,
                (
                  all.1.1.0,
                  (
                    there_or accepted middle some before name extends all.1.1.1.0,
                    subst (λ (b : List (List ℕ)). ListsNames from keys accepted b names others all.1.0) (sym (append_assoc some before (name ∷ [])))
                        (lists_behind accepted middle some next names others all.1.0 extends all.1.1.1.1),
                  ),
                ),
              ),
            ),
          ),
        ),
      )

  -- for some names and for others
  lists_both : (accepted : ManifestText) (before names others : List (List ℕ)) (records behind : List TaggedRecord) (added more : List Addition)
      → ListsNames from keys accepted before names records added → ListsNames from keys accepted (before ++ names) others behind more
      → ListsNames from keys accepted before (names ++ others) (records ++ behind) (added ++ more)
  lists_both accepted before [] others records behind added more none q =
      subst (λ (l : List Addition). ListsNames from keys accepted before others (records ++ behind) (l ++ more)) (sym none.1)
      (subst (λ (r : List TaggedRecord). ListsNames from keys accepted before others (r ++ behind) more) (sym none.0)
      (subst (λ (b : List (List ℕ)). ListsNames from keys accepted b others behind more) (append-nil before) q))
  lists_both accepted before (name ∷ names) others records behind added more p q =
      let next = before ++ name ∷ [] in
      let all = p.1.1.1 in
      let rest = lists_both accepted next names others p.1.0 behind all.1.0 more all.1.1.1.1
      (subst (λ (b : List (List ℕ)). ListsNames from keys accepted b others behind more) (sym (append_assoc before (name ∷ []) names)) q) in (
        p.0,
        (
          p.1.0 ++ behind,
          (
            ap (λ (r : List TaggedRecord). r ++ behind) p.1.1.0 ∙ append_assoc p.0 p.1.0 behind,
            (
              all.0,
              (
                all.1.0 ++ more,
                (ap (λ (l : List Addition). l ++ more) all.1.1.0 ∙ append_assoc all.0 all.1.0 more, (all.1.1.1.0, rest)),
              ),
            ),
          ),
        ),
      )

  -- for some names, and for others beside what is accepted behind them
  pub lists_then : (accepted middle : ManifestText) (some others : List (List ℕ)) (records behind : List TaggedRecord) (added more : List Addition)
      → Extends accepted some middle → ListsNames from keys accepted [] some records added → ListsNames from keys middle [] others behind more
      → ListsNames from keys accepted [] (some ++ others) (records ++ behind) (added ++ more)
  lists_then accepted middle some others records behind added more extends lists next =
      lists_both accepted [] some others records behind added more lists
      (subst (λ (b : List (List ℕ)). ListsNames from keys accepted b others behind more) (append-nil some)
      (lists_behind accepted middle some [] others behind more extends next))

  -- ---- as far as it came

  -- nothing of what is added for names
  begins_nothing : (accepted : ManifestText) (before names : List (List ℕ)) → BeginsNames from keys accepted before names []
  begins_nothing accepted before [] = refl
  begins_nothing accepted before (name ∷ names) = inl (by (there_or_not accepted before name)) where
    by : IsThere accepted before name ⊎ (IsThere accepted before name → ⊥) → BeginsName from keys accepted before name []
    by (inl there) = inl (there, refl)
    by (inr new) = inr (new, inl refl)

  -- of a name, behind names that came
  pub name_behind : (accepted middle : ManifestText) (some : List (List ℕ)) (name : List ℕ) (begun : List Addition) → Extends accepted some middle
      → BeginsName from keys middle [] name begun → BeginsName from keys accepted some name begun
  name_behind accepted middle some name begun extends p =
      subst (λ (b : List (List ℕ)). BeginsName from keys accepted b name begun) (append-nil some) (there_or accepted middle some [] name extends p)

  -- of more names
  begins_wider : (accepted : ManifestText) (before names more : List (List ℕ)) (begun : List Addition) → BeginsNames from keys accepted before names begun
      → BeginsNames from keys accepted before (names ++ more) begun
  begins_wider accepted before [] more begun none =
      subst (BeginsNames from keys accepted before more) (sym none) (begins_nothing accepted before more)
  begins_wider accepted before (name ∷ names) more begun (inl one) = inl one
  begins_wider accepted before (name ∷ names) more begun (inr some) =
      let next = before ++ name ∷ [] in
      inr (rest_map accepted before name (BeginsNames from keys accepted next names) (BeginsNames from keys accepted next (names ++ more)) begun
      (λ rest p. begins_wider accepted next names more rest p) some)

  -- behind names that came
  begins_behind : (accepted middle : ManifestText) (some before names : List (List ℕ)) (begun : List Addition) → Extends accepted some middle
      → BeginsNames from keys middle before names begun → BeginsNames from keys accepted (some ++ before) names begun
  begins_behind accepted middle some before [] begun extends none = none
  begins_behind accepted middle some before (name ∷ names) begun extends (inl one) = inl (there_or accepted middle some before name extends one)
  begins_behind accepted middle some before (name ∷ names) begun extends (inr p) =
      let next = before ++ name ∷ [] in
      inr (rest_behind accepted middle some before name (BeginsNames from keys middle next names)
      (BeginsNames from keys accepted ((some ++ before) ++ name ∷ []) names) begun extends (λ rest q.
      subst (λ (b : List (List ℕ)). BeginsNames from keys accepted b names rest) (sym (append_assoc some before (name ∷ [])))
      (begins_behind accepted middle some next names rest extends q)) p)

  -- all of what is added for some names, and a part of what is for others
  begins_then : (accepted middle : ManifestText) (some others : List (List ℕ)) (records : List TaggedRecord) (added begun : List Addition)
      → Extends accepted some middle → ListsNames from keys accepted [] some records added → BeginsNames from keys middle [] others begun
      → BeginsNames from keys accepted [] (some ++ others) (added ++ begun)
  begins_then accepted middle some others records added begun extends lists behind =
      names_both accepted (BeginsNames from keys accepted) (λ before name names all p. inr p) [] some others records added begun lists
      (subst (λ (b : List (List ℕ)). BeginsNames from keys accepted b others begun) (append-nil some)
      (begins_behind accepted middle some [] others begun extends behind))

-- all that is added for some names, and a part of what is for the next
pub lists_begins : (from : Origin) (keys : Keys) (accepted : ManifestText) (some : List (List ℕ)) (name : List ℕ) (rest : List (List ℕ))
    (records : List TaggedRecord) (added begun : List Addition) → ListsNames from keys accepted [] some records added
    → BeginsName from keys accepted some name begun → BeginsNames from keys accepted [] (some ++ name ∷ rest) (added ++ begun)
lists_begins from keys accepted some name rest records added begun lists begins =
    names_both from keys accepted (BeginsNames from keys accepted) (λ before name names all p. inr p) [] some (name ∷ rest) records added begun lists
    (inl begins)

-- the same where a target tells its files
pub all_nothing : (before : Option Told) (from : Origin) (store : Store) (names : List (List ℕ)) → BeginsAll before from store names []
all_nothing None from store names = tt
all_nothing (Some t) from store names = begins_nothing from (repo_view store.repo).keys (accepted_in store) [] names

pub all_one : (before : Option Told) (from : Origin) (store : Store) (name : List ℕ) (begun : List Addition)
    → BeginsDone before from (repo_view store.repo).keys (accepted_in store) name begun → BeginsAll before from store (name ∷ []) begun
all_one None from store name begun one = tt
all_one (Some t) from store name begun one = inl one

pub all_wider : (before : Option Told) (from : Origin) (store : Store) (names more : List (List ℕ)) (begun : List Addition)
    → BeginsAll before from store names begun → BeginsAll before from store (names ++ more) begun
all_wider None from store names more begun begins = tt
all_wider (Some t) from store names more begun begins =
    begins_wider from (repo_view store.repo).keys (accepted_in store) [] names more begun begins

pub all_then : (from : Origin) (store middle : Store) (some others : List (List ℕ)) (records : List TaggedRecord) (added begun : List Addition) (a b : Option
    Told)
    → Extends (accepted_in store) some (accepted_in middle) → (repo_view middle.repo).keys ≡ (repo_view store.repo).keys
    → Between a b (λ h g. AllDone h g × (CarriesNames from some records added store middle h g × TellsNames (accepted_in store) some h g))
    → BeginsAll b from middle others begun → BeginsAll a from store (some ++ others) (added ++ begun)
all_then from store middle some others records added begun None b extends keys end behind = tt
all_then from store middle some others records added begun (Some t) b extends keys end behind =
    let at : BeginsAll (Some end.0) from middle others begun = subst (λ (o : Option Told). BeginsAll o from middle others begun) end.1 behind in
    begins_then from (repo_view store.repo).keys (accepted_in store) (accepted_in middle) some others records added begun extends end.2.1.0.1
    (subst (λ (k : Keys). BeginsNames from k (accepted_in middle) [] others begun) keys at)

-- ---- where the source refused one

module _ (from : Origin) (keys : Keys) (fault : RepoFault) where
  -- of more names
  fills_wider : (accepted : ManifestText) (before names more : List (List ℕ)) (begun : List Addition) → FillsNames from keys accepted before names fault begun
      → FillsNames from keys accepted before (names ++ more) fault begun
  fills_wider accepted before [] more begun never = absurd never
  fills_wider accepted before (name ∷ names) more begun (inl one) = inl one
  fills_wider accepted before (name ∷ names) more begun (inr some) =
      let next = before ++ name ∷ [] in
      inr (rest_map from keys accepted before name (λ rest. FillsNames from keys accepted next names fault rest)
      (λ rest. FillsNames from keys accepted next (names ++ more) fault rest) begun (λ rest p. fills_wider accepted next names more rest p) some)

  -- behind names that came
  fills_behind : (accepted middle : ManifestText) (some before names : List (List ℕ)) (begun : List Addition) → Extends accepted some middle
      → FillsNames from keys middle before names fault begun → FillsNames from keys accepted (some ++ before) names fault begun
  fills_behind accepted middle some before [] begun extends never = never
  fills_behind accepted middle some before (name ∷ names) begun extends (inl one) = inl (there_or accepted middle some before name extends one)
  fills_behind accepted middle some before (name ∷ names) begun extends (inr p) =
      let next = before ++ name ∷ [] in
      inr (rest_behind from keys accepted middle some before name (λ rest. FillsNames from keys middle next names fault rest)
      (λ rest. FillsNames from keys accepted ((some ++ before) ++ name ∷ []) names fault rest) begun extends (λ rest q.
      subst (λ (b : List (List ℕ)). FillsNames from keys accepted b names fault rest) (sym (append_assoc some before (name ∷ [])))
      (fills_behind accepted middle some next names rest extends q)) p)

  -- all of what is added for some names, and for others up to the fault
  fills_then : (accepted middle : ManifestText) (some others : List (List ℕ)) (records : List TaggedRecord) (added begun : List Addition)
      → Extends accepted some middle → ListsNames from keys accepted [] some records added → FillsNames from keys middle [] others fault begun
      → FillsNames from keys accepted [] (some ++ others) fault (added ++ begun)
  fills_then accepted middle some others records added begun extends lists behind =
      names_both from keys accepted (λ before names all. FillsNames from keys accepted before names fault all) (λ before name names all p. inr p) [] some
      others records added begun lists (subst (λ (b : List (List ℕ)). FillsNames from keys accepted b others fault begun) (append-nil some)
      (fills_behind accepted middle some [] others begun extends behind))

-- of a body of which no fault is the source's
pub filled_apart : {T : Type 0} (before : Option Told) (from : Origin) (store : Store) (names : List (List ℕ)) (begun : List Addition)
    (result : Result T CarryFault) → IfErr result (λ fault. IsOfSource fault → ⊥) → IfErr result (λ fault. FillsAll before from store names fault begun)
filled_apart {T} before from store names begun (Ok x) apart = tt
filled_apart {T} before from store names begun (Err fault) apart =
    heard_apart before fault (λ refusal. FillsNames from (repo_view store.repo).keys (accepted_in store) [] names refusal begun) apart

-- the same where a target tells its files
pub filled_one : (before : Option Told) (from : Origin) (store : Store) (name : List ℕ) (fault : CarryFault) (begun : List Addition)
    → FillsFlight before from (repo_view store.repo).keys (accepted_in store) name fault begun → FillsAll before from store (name ∷ []) fault begun
filled_one before from store name fault begun filled =
    let keys = (repo_view store.repo).keys in
    heard_map before fault (λ refusal. FillsName from keys (accepted_in store) [] name refusal begun)
    (λ refusal. FillsNames from keys (accepted_in store) [] (name ∷ []) refusal begun) (λ refusal one. inl one) filled

pub filled_wider : (before : Option Told) (from : Origin) (store : Store) (names more : List (List ℕ)) (fault : CarryFault) (begun : List Addition)
    → FillsAll before from store names fault begun → FillsAll before from store (names ++ more) fault begun
filled_wider before from store names more fault begun filled =
    let keys = (repo_view store.repo).keys in
    heard_map before fault (λ refusal. FillsNames from keys (accepted_in store) [] names refusal begun)
    (λ refusal. FillsNames from keys (accepted_in store) [] (names ++ more) refusal begun)
    (λ refusal fills. fills_wider from keys refusal (accepted_in store) [] names more begun fills) filled

pub filled_then : (from : Origin) (store middle : Store) (some others : List (List ℕ)) (records : List TaggedRecord) (added begun : List Addition) (a b :
    Option Told) (fault : CarryFault)
    → Extends (accepted_in store) some (accepted_in middle) → (repo_view middle.repo).keys ≡ (repo_view store.repo).keys
    → Between a b (λ h g. AllDone h g × (CarriesNames from some records added store middle h g × TellsNames (accepted_in store) some h g))
    → FillsAll b from middle others fault begun → FillsAll a from store (some ++ others) fault (added ++ begun)
filled_then from store middle some others records added begun a b fault extends keys end behind =
    heard_to b a fault (λ refusal. FillsNames from (repo_view middle.repo).keys (accepted_in middle) [] others refusal begun)
    (λ refusal. FillsNames from (repo_view store.repo).keys (accepted_in store) [] (some ++ others) refusal (added ++ begun))
    (λ refusal known. by a end refusal known) behind where
      by : (o : Option Told)
          → Between o b (λ h g. AllDone h g × (CarriesNames from some records added store middle h g × TellsNames (accepted_in store) some h g))
          → (refusal : RepoFault) → IfSome b (λ _. FillsNames from (repo_view middle.repo).keys (accepted_in middle) [] others refusal begun)
          → IfSome o (λ _. FillsNames from (repo_view store.repo).keys (accepted_in store) [] (some ++ others) refusal (added ++ begun))
      by None ends refusal known = tt
      by (Some t) ends refusal known =
          let at : FillsNames from (repo_view middle.repo).keys (accepted_in middle) [] others refusal begun =
          subst (λ (o : Option Told). IfSome o (λ _. FillsNames from (repo_view middle.repo).keys (accepted_in middle) [] others refusal begun)) ends.1 known
          in
          fills_then from (repo_view store.repo).keys refusal (accepted_in store) (accepted_in middle) some others records added begun extends ends.2.1.0.1
          (subst (λ (k : Keys). FillsNames from k (accepted_in middle) [] others refusal begun) keys at)

-- ---- one archive

-- What was added for an archive once it is done, of a target that tells its files.
abbrev pub ListedAs : Origin → Keys → List ℕ → List TaggedRecord → List Addition → Bool → Type 0
ListedAs from keys name records added true = (one : TaggedRecord) × ((records ≡ one ∷ []) × ListsOne from keys name one added)
ListedAs from keys name records added false = (records ≡ []) × (added ≡ [])

pub listed_as : (before : Option Told) (from : Origin) (keys : Keys) (name : List ℕ) (records : List TaggedRecord) (added : List Addition) (copied : Bool)
    → ListsDone before from keys name records added copied → IfSome before (λ _. ListedAs from keys name records added copied)
listed_as None from keys name records added copied done = tt
listed_as (Some t) from keys name records added true done = done
listed_as (Some t) from keys name records added false done = done

-- all that is added for one name, by what is told of it
lists_name : (from : Origin) (keys : Keys) (accepted : ManifestText) (name : List ℕ) (records : List TaggedRecord) (added : List Addition) (copied : Bool)
    → TellsNew accepted [] name copied → ListedAs from keys name records added copied → ListsName from keys accepted [] name records added
lists_name from keys accepted name records added true new listed = inr (new, listed)
lists_name from keys accepted name records added false there none = inl (there, none)

pub lists_one : (from : Origin) (keys : Keys) (accepted : ManifestText) (name : List ℕ) (records : List TaggedRecord) (added : List Addition) (copied : Bool)
    → TellsNew accepted [] name copied → ListedAs from keys name records added copied
    → ListsNames from keys accepted [] (name ∷ []) records added
lists_one from keys accepted name records added copied new listed = (
  records,
  (
    [],
    (
      sym (append-nil records),
      (added, ([], (sym (append-nil added), (lists_name from keys accepted name records added copied new listed, (refl, refl))))),
    ),
  ),
)
