-- Lemmas on specs/Restoring.antt and specs/Wholes.antt: what is restored is whole, and isn't refused.
use Rattle.std.proofs.Common.{◌≡◌, inl, inr, ℕ, List, [], ◌∷◌, ◌++◌, Option, Some, None, option_map, unwrap_or, refl, sym, ◌∙◌, ap, subst}
use Rattle.ferry_disk.specs.Files.{Files}
use Rattle.ferry_item.specs.Item.{ItemText}
use Rattle.ferry_item.specs.Stream.{joined}
use Rattle.ferry_item.specs.declared.item.ChunkRef.{ChunkRef}
use Rattle.ferry_repo.specs.Opening.{RepoState}
use Rattle.ferry_repo.specs.Walk.{WalkState, IsToCome}
use Rattle.ferry_repo.specs.Archives.{ContentsCome, HoldsJoined}
use Rattle.ferry_repo.specs.Whole.{WholeArchive, WholeItem, WholesCome, IsWhole}
use Rattle.ferry_repo.specs.declared.fault.RepoFault.{RepoFault}
use Rattle.ferry_repo.proofs.ComesLemmas.{whole_comes}
use Rattle.ferry_repo.proofs.ContentLemmas.{one_contents}
use Rattle.ferry_repo.proofs.WalkLawLemmas.{one_comes}
use Rattle.ferry_view.specs.Steps.{Begins}
use Rattle.ferry_view.proofs.WalkLemmas.{begin_comes}
use Rattle.ferry_tree.specs.Growth.{Grown, Grows, IsPlaced, IsTreeOf, ReadItem, bare, grown_by, outcome_in}
use Rattle.ferry_tree.specs.Planning.{Outcome, refused}
use Rattle.ferry_tree.specs.Restoring.{AreRead, EndsStream, RefusesItem, RefusesItems, SaysSomething}
use Rattle.ferry_tree.specs.Shapes.{chunks_of, shape_of}
use Rattle.ferry_tree.specs.Wholes.{IsOf, AreOf}
use Rattle.ferry_tree.specs.declared.fault.RestoreFault.{RestoreFault}
use Rattle.ferry_tree.specs.declared.fault.RestoreFault.TheVariants as Faults
use Rattle.ferry_tree.specs.declared.planning.PlaceFault.{PlaceFault}
use Rattle.ferry_tree.specs.declared.planning.Shape.{Shape}

-- ---- one tree

pub one_tree : (from : Grown) (reads : List ReadItem) (a b : Grown) → Grows from reads a → Grows from reads b → a ≡ b
one_tree from [] a b ha hb = ha ∙ sym hb
one_tree from (r ∷ rs) a b ha hb = one_tree (grown_by r from) rs a b ha.1 hb.1

-- ---- whole

abbrev whole_of : ItemText → ReadItem → WholeItem
whole_of item read = record { fields = item.fields; content = option_map (λ _. joined read.contents) item.chunks }

joined_of : (files : Files) (repo : RepoState) (chunks : Option (List ChunkRef)) (contents : List (List ℕ))
    → ContentsCome files repo.log repo.keys (unwrap_or chunks []) contents None
    → HoldsJoined files repo.log repo.keys chunks (option_map (λ _. joined contents) chunks)
joined_of files repo None contents come = tt
joined_of files repo (Some chunks) contents come = (contents, come, refl)

abbrev wholes_of : List ItemText → List ReadItem → List WholeItem
wholes_of [] reads = []
wholes_of (i ∷ is) [] = []
wholes_of (i ∷ is) (r ∷ rs) = whole_of i r ∷ wholes_of is rs

wholes_come : (files : Files) (repo : RepoState) (items : List ItemText) (reads : List ReadItem) → AreRead files repo items reads
    → WholesCome files repo.log repo.keys items None (wholes_of items reads) None
wholes_come files repo [] reads are = refl
wholes_come files repo (i ∷ is) [] are = absurd are
wholes_come files repo (i ∷ is) (r ∷ rs) are =
    (record { fields = refl; content = joined_of files repo i.chunks r.contents are.0.1 }, wholes_come files repo is rs are.1)

no_contents : (files : Files) (repo : RepoState) (contents : List (List ℕ)) → ContentsCome files repo.log repo.keys [] contents None → contents ≡ []
no_contents files repo [] come = refl
no_contents files repo (c ∷ cs) come = absurd come

is_of : (files : Files) (repo : RepoState) (item : ItemText) (read : ReadItem) (chunks : Option (List ChunkRef)) → item.chunks ≡ chunks
    → read.shape ≡ shape_of (record { fields = item.fields; chunks = chunks }) → ContentsCome files repo.log repo.keys (unwrap_or chunks []) read.contents None
    → IsOf (record { fields = item.fields; content = option_map (λ _. joined read.contents) chunks }) read
is_of files repo item read None is shape come = record { shape = shape; content = no_contents files repo read.contents come }
is_of files repo item read (Some chunks) is shape come = record { shape = shape; content = refl }

are_of : (files : Files) (repo : RepoState) (items : List ItemText) (reads : List ReadItem) → AreRead files repo items reads
    → AreOf (wholes_of items reads) reads
are_of files repo [] [] are = tt
are_of files repo [] (r ∷ rs) are = absurd are
are_of files repo (i ∷ is) [] are = absurd are
are_of files repo (i ∷ is) (r ∷ rs) are = (is_of files repo i r i.chunks refl are.0.0 are.0.1, are_of files repo is rs are.1)

pub whole_archive : (files : Files) (repo : RepoState) (name : List ℕ) (walk : WalkState) (items : List ItemText) (reads : List ReadItem)
    → Begins files repo name walk → IsToCome files repo.log repo.keys walk items None → AreRead files repo items reads
    → (whole : WholeArchive) × (IsWhole files repo.log repo.keys repo.manifest.archives name whole × AreOf whole.items reads)
whole_archive files repo name walk items reads begins come are =
    let wholes = wholes_of items reads in
    let whole : WholeArchive = record { time = begins.named.time; fields = begins.archive.fields; items = wholes } in (
      whole,
      (
        record {
          named = begins.named;
          named_is = begins.named_is;
          archive = begins.archive;
          record_is = begins.record_is;
          items = items;
          stream = (whole_comes files repo.log repo.keys begins.named.id begins.archive.items items).0
              (begin_comes files repo name walk begins items None come);
          contents = wholes_come files repo items reads are;
          time = refl;
          fields = refl;
        },
        are_of files repo items reads are,
      ),
    )

-- ---- never both

one_to_come : (files : Files) (repo : RepoState) (name : List ℕ) (walk : WalkState) (items others : List ItemText) (end other : Option RepoFault)
    → Begins files repo name walk → IsToCome files repo.log repo.keys walk items end → IsToCome files repo.log repo.keys walk others other
    → (items ≡ others) × (end ≡ other)
one_to_come files repo name walk items others end other begins a b =
    one_comes files repo.log repo.keys begins.named.id [] begins.archive.items items others end other
    (begin_comes files repo name walk begins items end a) (begin_comes files repo name walk begins others other b)

same_read : (r s : ReadItem) → r.shape ≡ s.shape → r.contents ≡ s.contents → r ≡ s
same_read r s shape contents =
    ap (λ x. record { shape = x; contents = r.contents }) shape ∙ ap (λ x. record { shape = s.shape; contents = x }) contents

outcome_apart : (f : PlaceFault) (o : Outcome) → IsPlaced o → o ≡ refused f → ⊥
outcome_apart f o place is = subst IsPlaced is place

item_apart : (files : Files) (repo : RepoState) (item : ItemText) (before : Grown) (read : ReadItem) (fault : RestoreFault) → SaysSomething fault
    → read.shape ≡ shape_of item → ContentsCome files repo.log repo.keys (chunks_of item) read.contents None → IsPlaced (outcome_in before read.shape)
    → RefusesItem files repo item before fault → ⊥
item_apart files repo item before read (Faults.Source fault) says shape come place refuses =
    let lost = (refuses says).1 in
    let both = one_contents files repo.log repo.keys (chunks_of item) read.contents lost.0 None (Some fault) come lost.1 in
    let no : None ≡ Some fault = both.1 in
    cc
item_apart files repo item before read (Faults.Place path fault) says shape come place refuses =
    outcome_apart fault (outcome_in before (shape_of item)) (subst (λ (s : Shape). IsPlaced (outcome_in before s)) shape place) refuses.1
item_apart files repo item before read Faults.NotFound says shape come place refuses = says
item_apart files repo item before read Faults.NotEmpty says shape come place refuses = says
item_apart files repo item before read Faults.Tree says shape come place refuses = says
item_apart files repo item before read Faults.Memory says shape come place refuses = says

-- of items that all come and have a place, none is refused behind the same ones
grows_apart : (files : Files) (repo : RepoState) (from : Grown) (before : List ItemText) (item : ItemText) (behind : List ItemText)
    (reads firsts : List ReadItem) (grown mid : Grown) (fault : RestoreFault) → SaysSomething fault
    → AreRead files repo (before ++ (item ∷ behind)) reads → Grows from reads grown
    → AreRead files repo before firsts → Grows from firsts mid → RefusesItem files repo item mid fault → ⊥
grows_apart files repo from [] item behind [] firsts grown mid fault says are grows first mids refuses = absurd are
grows_apart files repo from [] item behind (r ∷ rs) [] grown mid fault says are grows first mids refuses =
    item_apart files repo item from r fault says are.0.0 are.0.1 grows.0 (subst (λ (g : Grown). RefusesItem files repo item g fault) mids refuses)
grows_apart files repo from [] item behind (r ∷ rs) (f ∷ fs) grown mid fault says are grows first mids refuses = absurd first
grows_apart files repo from (b ∷ bs) item behind [] firsts grown mid fault says are grows first mids refuses = absurd are
grows_apart files repo from (b ∷ bs) item behind (r ∷ rs) [] grown mid fault says are grows first mids refuses = absurd first
grows_apart files repo from (b ∷ bs) item behind (r ∷ rs) (f ∷ fs) grown mid fault says are grows first mids refuses =
    let contents = (one_contents files repo.log repo.keys (chunks_of b) r.contents f.contents None None are.0.1 first.0.1).0 in
    let same : r ≡ f = same_read r f (are.0.0 ∙ sym first.0.0) contents in
    grows_apart files repo (grown_by r from) bs item behind rs fs grown mid fault says are.1 grows.1 first.1
    (subst (λ (x : ReadItem). Grows (grown_by x from) fs mid) (sym same) mids.1) refuses

stream_apart : (files : Files) (repo : RepoState) (name : List ℕ) (walk : WalkState) (items : List ItemText) (fault : RestoreFault) → SaysSomething fault
    → Begins files repo name walk → IsToCome files repo.log repo.keys walk items None → EndsStream files repo walk fault → ⊥
stream_apart files repo name walk items (Faults.Source fault) says begins come ends =
    let behind = ends says in
    let both = one_to_come files repo name walk items (behind.items ++ []) None (Some fault) begins come behind.reads.come in
    let no : None ≡ Some fault = both.1 in
    cc
stream_apart files repo name walk items (Faults.Place path fault) says begins come ends = ends
stream_apart files repo name walk items Faults.NotFound says begins come ends = says
stream_apart files repo name walk items Faults.NotEmpty says begins come ends = says
stream_apart files repo name walk items Faults.Tree says begins come ends = says
stream_apart files repo name walk items Faults.Memory says begins come ends = says

pub never_both : (files : Files) (repo : RepoState) (name : List ℕ) (walk : WalkState) (items : List ItemText) (reads : List ReadItem) (grown : Grown)
    (fault : RestoreFault) → Begins files repo name walk → IsToCome files repo.log repo.keys walk items None → AreRead files repo items reads
    → IsTreeOf reads grown → SaysSomething fault → RefusesItems files repo walk fault → ⊥
never_both files repo name walk items reads grown fault begins come are tree_is says (inl ends) =
    let all = ends.items ++ (ends.item ∷ ends.behind) in
    let same = (one_to_come files repo name walk items all None ends.end begins come ends.reads.come).0 in
    grows_apart files repo bare ends.items ends.item ends.behind reads ends.reads.reads grown ends.grown fault says
    (subst (λ (is : List ItemText). AreRead files repo is reads) same are) tree_is ends.reads.are ends.reads.tree_is ends.refused
never_both files repo name walk items reads grown fault begins come are tree_is says (inr ends) =
    stream_apart files repo name walk items fault says begins come ends
