-- The documents of a system are read in one order, and come to one outline, or to one flaw.
use Rattle.std.proofs.Common.{◌≡◌, ◌∙◌, ℕ, List, [], ◌∷◌, ◌++◌, Option, Some, None, refl, sym, ap, subst}
use Rattle.std.proofs.lemmas.Option.{none-some, same_Some}
use Rattle.sim_base.specs.Path.{joined_path}
use Rattle.sim_base.specs.declared.read_book.ReadNote.{ReadNote}
use Rattle.doc_tree.specs.declared.place.Place.{Place}
use Rattle.doc_tree.specs.declared.rule.NestingRule.{NestingRule}
use Rattle.doc_tree.specs.declared.rule.Rule.{Rule}
use Rattle.doc_tree.specs.declared.rule.Rule.TheVariants.{Nesting}
use Rattle.ssd_tree.specs.declared.tree.Setting.{Setting}
use Rattle.nested_documents.specs.declared.nest.TheConstants.{OUTERMOST}
use Rattle.nested_documents.specs.declared.nest.Next.{Next}
use Rattle.nested_documents.specs.declared.nest.Next.TheVariants as next
use Rattle.nested_documents.specs.declared.numbers.Place as elements
use Rattle.nested_documents.specs.Nest.{HoldsOnly, IsAdded, IsNext}
use Rattle.nested_documents.specs.States.{Document, Gathered}
use Rattle.nesting_laws.proofs.CallerLemmas.{one_added, one_next, one_top}
use Rattle.system_loading.specs.declared.documents.SystemDocument.{SystemDocument}
use Rattle.system_loading.specs.declared.outline.Outline.{Outline}
use Rattle.system_loading.specs.Documents.{BreaksStructure, IsStructure, Said}
use Rattle.system_loading.specs.Outlines.{place_at}
use Rattle.system_files.specs.Documents.{Adds, AtDocument, AtNesting, Begins, ComesDocument, ComesNext, ComesTop, Gathers, GathersAll, HasNestingFlaw, LacksConnector, LacksOutline, Nested, Outermost, StandsTooDeep, document_files, document_with, told_at, top_path}
use Rattle.system_files.specs.Files.{AreSteady, Faulty, Flaw, HasFile, LacksFile}
use Rattle.system_files.specs.Order.{AreAlike}
use Rattle.system_files.specs.Steps.{FailsStructure, SaysStructure}
use Rattle.system_files.proofs.FileLemmas.{flawed_once, flawed_unsaid, is_flawed, is_said, said_once, said_unflawed}

-- ---- how far the documents are read

-- the documents that are read, and what they come to, where there are any
pub record Point : Type 0 where
  pub documents : List SystemDocument
  pub state : Option Gathered

abbrev pub start : Point
start = record { documents = []; state = None }

abbrev pub point : List SystemDocument → Gathered → Point
point documents g = record { documents = documents; state = Some g }

-- what comes then: at first the outermost document
abbrev pub NextAt : Option Gathered → Next → Type 0
NextAt None n = n ≡ next.Document top_path OUTERMOST
NextAt (Some g) n = IsNext g n

abbrev pub PutAt : Option Gathered → Document → Gathered → Type 0
PutAt None d g = HoldsOnly d g
PutAt (Some old) d g = IsAdded old d g

one_then : (state : Option Gathered) (a b : Next) → NextAt state a → NextAt state b → a ≡ b
one_then None a b p q = p ∙ sym q
one_then (Some g) a b p q = one_next g a b p q

one_put : (state : Option Gathered) (d : Document) (a b : Gathered) → PutAt state d a → PutAt state d b → a ≡ b
one_put None d a b p q = one_top d a b p q
one_put (Some old) d a b p q = one_added old d a b p q

same_path : (p q : List ℕ) (s t : Setting) → next.Document p s ≡ next.Document q t → p ≡ q
same_path p q s t e = cc

same_setting : (p q : List ℕ) (s t : Setting) → next.Document p s ≡ next.Document q t → s ≡ t
same_setting p q s t e = cc

none_document : (p : List ℕ) (s : Setting) → next.Document p s ≡ next.Nothing → ⊥
none_document p s e = cc

deep_document : (p : List ℕ) (s : Setting) (place : elements.Place) → next.Document p s ≡ next.TooDeep place → ⊥
deep_document p s place e = cc

deep_none : (place : elements.Place) → next.TooDeep place ≡ next.Nothing → ⊥
deep_none place e = cc

same_place : (p q : elements.Place) → next.TooDeep p ≡ next.TooDeep q → p ≡ q
same_place p q e = cc

-- ---- a step

-- the next document is read, and leads to another point
pub record Steps (Says : Setting → List ℕ → Said → Type 0) (directory : List ℕ) (reads : List ReadNote) (x y : Point) : Type 0 where
  pub path : List ℕ
  pub setting : Setting
  pub said : Said
  pub new : Gathered
  pub comes : NextAt x.state (next.Document path setting)
  pub tells : HasFile (Says setting) reads (joined_path directory path) said
  pub put : PutAt x.state said.document new
  pub is : y ≡ point (x.documents ++ document_with path said ∷ []) new

-- step by step on to a point
pub data Leads (Says : Setting → List ℕ → Said → Type 0) (directory : List ℕ) (reads : List ReadNote) : Point → Point → Type 0 where
  Here : (x y : Point) → x ≡ y → Leads Says directory reads x y
  Onward : (x m y : Point) → Steps Says directory reads x m → Leads Says directory reads m y → Leads Says directory reads x y

module _ (Says : Setting → List ℕ → Said → Type 0) (directory : List ℕ) (reads : List ReadNote) where
  then_step : (x y z : Point) → Leads Says directory reads x y → Steps Says directory reads y z → Leads Says directory reads x z
  then_step x y z (Here _ _ e) step = Onward x z z (subst (λ (p : Point). Steps Says directory reads p z) (sym e) step) (Here z z refl)
  then_step x y z (Onward _ m _ first rest) step = Onward x m z first (then_step m y z rest step)

  first_step : (said : Said) (documents : List SystemDocument) (g : Gathered) → HasFile (Says OUTERMOST) reads (joined_path directory top_path) said → Begins said documents g → Steps Says directory reads start (point documents g)
  first_step said documents g tells begins = record {
    path = top_path;
    setting = OUTERMOST;
    said = said;
    new = g;
    comes = refl;
    tells = tells;
    put = begins.top;
    is = ap (λ (ds : List SystemDocument). point ds g) begins.documents;
  }

  more_step : (before : List SystemDocument) (old : Gathered) (path : List ℕ) (s : Setting) (said : Said) (documents : List SystemDocument) (g : Gathered) → IsNext old (next.Document path s)
      → HasFile (Says s) reads (joined_path directory path) said → Adds said path before old documents g → Steps Says directory reads (point before old) (point documents g)
  more_step before old path s said documents g comes tells adds = record {
    path = path;
    setting = s;
    said = said;
    new = g;
    comes = comes;
    tells = tells;
    put = adds.added;
    is = ap (λ (ds : List SystemDocument). point ds g) adds.documents;
  }

  -- what is read leads from the start on
  pub gathered_leads : (documents : List SystemDocument) (g : Gathered) → Gathers Says directory reads documents g → Leads Says directory reads start (point documents g)
  gathered_leads documents g (Outermost said _ _ tells begins) =
      Onward start (point documents g) (point documents g) (first_step said documents g tells begins) (Here (point documents g) (point documents g) refl)
  gathered_leads documents g (Nested before old path s said _ _ gathers comes tells adds) =
      then_step start (point before old) (point documents g) (gathered_leads before old gathers) (more_step before old path s said documents g comes tells adds)

  -- and so does what comes then
  pub comes_from : (documents : List SystemDocument) (path : List ℕ) (s : Setting) → ComesDocument Says directory reads documents path s →
      (state : Option Gathered) × Leads Says directory reads start (record { documents = documents; state = state }) × NextAt state (next.Document path s)
  comes_from documents path s (ComesTop _ _ _ none path_is s_is) =
      (None, Here start (record { documents = documents; state = None }) (ap (λ (ds : List SystemDocument). record { documents = ds; state = None }) (sym none)), λ i. next.Document (path_is i) (s_is i))
  comes_from documents path s (ComesNext _ _ _ g gathers comes) = (Some g, gathered_leads documents g gathers, comes)

-- ---- where the folder tells its files

module _ (directory : List ℕ) (reads : List ReadNote) (steady : AreSteady reads) where
  abbrev Alone : Point → Point → Type 0
  Alone x y = Steps SaysStructure directory reads x y

  abbrev Plain : Point → Point → Type 0
  Plain x y = Steps IsStructure directory reads x y

  -- a step found alone is the only one
  one_step : (x y z : Point) → Alone x y → Plain x z → y ≡ z
  one_step x y z a p =
      let same : next.Document a.path a.setting ≡ next.Document p.path p.setting = one_then x.state (next.Document a.path a.setting) (next.Document p.path p.setting) a.comes p.comes in
      let path : p.path ≡ a.path = sym (same_path a.path p.path a.setting p.setting same) in
      let setting : p.setting ≡ a.setting = sym (same_setting a.path p.path a.setting p.setting same) in
      let tells : HasFile (IsStructure a.setting) reads (joined_path directory a.path) p.said =
      subst (λ (s : Setting). HasFile (IsStructure s) reads (joined_path directory a.path) p.said) setting
      (subst (λ (q : List ℕ). HasFile (IsStructure p.setting) reads (joined_path directory q) p.said) path p.tells) in
      let said : a.said ≡ p.said = said_once (IsStructure a.setting) (BreaksStructure a.setting) reads steady (joined_path directory a.path) a.said p.said a.tells tells in
      let new : a.new ≡ p.new = one_put x.state p.said.document a.new p.new (subst (λ (d : Said). PutAt x.state d.document a.new) said a.put) p.put in
      let points : point (x.documents ++ document_with a.path a.said ∷ []) a.new ≡ point (x.documents ++ document_with p.path p.said ∷ []) p.new =
      λ i. point (x.documents ++ document_with (sym path i) (said i) ∷ []) (new i) in
      a.is ∙ (points ∙ sym p.is)

  -- of two points that are come to one is the other, or leads on
  pub data Compared (x y : Point) : Type 0 where
    Same : x ≡ y → Compared x y
    Before : (m : Point) → Plain x m → Leads IsStructure directory reads m y → Compared x y
    After : (m : Point) → Alone y m → Compared x y

  on : (x y : Point) → Leads IsStructure directory reads x y → Compared x y
  on x y (Here _ _ e) = Same e
  on x y (Onward _ m _ first rest) = Before m first rest

  -- a point that is come to alone, and another that is come to from the same
  compare_from : (x y z : Point) → Leads SaysStructure directory reads x y → Leads IsStructure directory reads x z → Compared y z
  compare_from x y z (Here _ _ e) plain = on y z (subst (λ (p : Point). Leads IsStructure directory reads p z) e plain)
  compare_from x y z (Onward _ m _ first rest) (Here _ _ e) = After m (subst (λ (p : Point). Alone p m) e first)
  compare_from x y z (Onward _ m _ first rest) (Onward _ n _ other more) =
      compare_from m y z rest (subst (λ (p : Point). Leads IsStructure directory reads p z) (sym (one_step x m n first other)) more)

  no_next : (x m : Point) (n : Next) → Plain x m → NextAt x.state n → (p : List ℕ) × ((s : Setting) × (next.Document p s ≡ n))
  no_next x m n step is = (step.path, (step.setting, one_then x.state (next.Document step.path step.setting) n step.comes is))

  alone_next : (x m : Point) (n : Next) → Alone x m → NextAt x.state n → (p : List ℕ) × ((s : Setting) × (next.Document p s ≡ n))
  alone_next x m n step is = (step.path, (step.setting, one_then x.state (next.Document step.path step.setting) n step.comes is))

  -- points at which no document comes are one
  ended_once : (x y : Point) (n k : Next) → ((p : List ℕ) (s : Setting) → next.Document p s ≡ n → ⊥) → ((p : List ℕ) (s : Setting) → next.Document p s ≡ k → ⊥) → NextAt x.state n → NextAt y.state k →
      Leads SaysStructure directory reads start x → Leads IsStructure directory reads start y → x ≡ y
  ended_once x y n k none nothing is ends alone plain = by (compare_from start x y alone plain)
    where
      by : Compared x y → x ≡ y
      by (Same e) = e
      by (Before m step rest) = let h = no_next x m n step is in absurd (none h.0 h.1.0 h.1.1)
      by (After m step) = let h = alone_next y m k step ends in absurd (nothing h.0 h.1.0 h.1.1)

  states : (documents others : List SystemDocument) (g h : Gathered) → point documents g ≡ point others h → g ≡ h
  states documents others g h e = same_Some g h (ap (λ (p : Point). p.state) e)

  -- ---- all are read

  pub gathers_once : (o other : Outline) → GathersAll SaysStructure directory reads o → GathersAll IsStructure directory reads other → o ≡ other
  gathers_once o other a f =
      let same : point a.documents a.last ≡ point f.documents f.last =
      ended_once (point a.documents a.last) (point f.documents f.last) next.Nothing next.Nothing none_document none_document a.all f.all
      (gathered_leads SaysStructure directory reads a.documents a.last a.gathers) (gathered_leads IsStructure directory reads f.documents f.last f.gathers) in
      let last : a.last ≡ f.last = states a.documents f.documents a.last f.last same in
      let systems : o.systems ≡ other.systems = a.is.systems ∙ (ap (λ (g : Gathered). g.tree) last ∙ sym f.is.systems) in
      let numbers : o.numbers ≡ other.numbers = a.is.numbers ∙ (ap (λ (g : Gathered). g.elements) last ∙ sym f.is.numbers) in
      let documents : o.documents ≡ other.documents = a.is.documents ∙ (ap (λ (p : Point). p.documents) same ∙ sym f.is.documents) in
      λ i. record { systems = systems i; numbers = numbers i; documents = documents i }

  -- ---- and a document isn't taken, or they stand in one another as they may not

  -- a document was read at a point, and isn't taken there
  taken_flawed : (x m : Point) (path : List ℕ) (s : Setting) (flaw : Flaw) → Alone x m → NextAt x.state (next.Document path s) → LacksFile (BreaksStructure s) reads (joined_path directory path) flaw → ⊥
  taken_flawed x m path s flaw step comes lacks =
      let same : next.Document path s ≡ next.Document step.path step.setting = one_then x.state (next.Document path s) (next.Document step.path step.setting) comes step.comes in
      let here : LacksFile (BreaksStructure step.setting) reads (joined_path directory step.path) flaw =
      subst (λ (t : Setting). LacksFile (BreaksStructure t) reads (joined_path directory step.path) flaw) (same_setting path step.path s step.setting same)
      (subst (λ (q : List ℕ). LacksFile (BreaksStructure s) reads (joined_path directory q) flaw) (same_path path step.path s step.setting same) lacks) in
      said_unflawed (IsStructure step.setting) (BreaksStructure step.setting) reads steady (joined_path directory step.path) step.said flaw step.tells here

  flawed_taken : (x m : Point) (path : List ℕ) (s : Setting) (flaw : Flaw) → Plain x m → NextAt x.state (next.Document path s) → LacksFile (FailsStructure s) reads (joined_path directory path) flaw → ⊥
  flawed_taken x m path s flaw step comes lacks =
      let same : next.Document step.path step.setting ≡ next.Document path s = one_then x.state (next.Document step.path step.setting) (next.Document path s) step.comes comes in
      let here : HasFile (IsStructure s) reads (joined_path directory path) step.said =
      subst (λ (t : Setting). HasFile (IsStructure t) reads (joined_path directory path) step.said) (same_setting step.path path step.setting s same)
      (subst (λ (q : List ℕ). HasFile (IsStructure step.setting) reads (joined_path directory q) step.said) (same_path step.path path step.setting s same) step.tells) in
      flawed_unsaid (IsStructure s) (BreaksStructure s) reads steady (joined_path directory path) step.said flaw lacks here

  -- where they stand in one another as they may not, no document comes
  stops : (g : Gathered) (place : elements.Place) (rule : NestingRule) → HasNestingFlaw g place rule → (n : Next) × (IsNext g n × ((p : List ℕ) (s : Setting) → next.Document p s ≡ n → ⊥))
  stops g place rule (StandsTooDeep _ _ comes is) = (next.TooDeep place, (comes, λ p s e. deep_document p s place e))
  stops g place rule (LacksConnector _ _ comes lacks is) = (next.Nothing, (comes, none_document))

  nesting_once : (g : Gathered) (p q : elements.Place) (a b : NestingRule) → HasNestingFlaw g p a → HasNestingFlaw g q b → (p ≡ q) × (a ≡ b)
  nesting_once g p q a b (StandsTooDeep _ _ comes is) (StandsTooDeep _ _ other also) = (same_place p q (one_next g (next.TooDeep p) (next.TooDeep q) comes other), is ∙ sym also)
  nesting_once g p q a b (StandsTooDeep _ _ comes is) (LacksConnector _ _ other lacks also) = absurd (deep_none p (one_next g (next.TooDeep p) next.Nothing comes other))
  nesting_once g p q a b (LacksConnector _ _ comes lacks is) (StandsTooDeep _ _ other also) = absurd (deep_none q (one_next g (next.TooDeep q) next.Nothing other comes))
  nesting_once g p q a b (LacksConnector _ _ comes lacks is) (LacksConnector _ _ other lost also) = (same_Some p q (sym lacks ∙ lost), is ∙ sym also)

  none_lacks : (g : Gathered) (p : elements.Place) (a : NestingRule) → IsNext g next.Nothing → g.lacking ≡ None → HasNestingFlaw g p a → ⊥
  none_lacks g p a all none (StandsTooDeep _ _ comes is) = deep_none p (one_next g (next.TooDeep p) next.Nothing comes all)
  none_lacks g p a all none (LacksConnector _ _ comes lacks is) = none-some p (sym none ∙ lacks)

  pub gathers_unflawed : (o : Outline) (asked : List (List ℕ)) (told : List ℕ) (flaw : Flaw) → GathersAll SaysStructure directory reads o → LacksOutline IsStructure BreaksStructure directory reads asked told flaw → ⊥
  gathers_unflawed o asked told flaw a (AtDocument documents path s _ _ _ comes lacks asked_is told_is) =
      let there = comes_from IsStructure directory reads documents path s comes in
      let y : Point = record { documents = documents; state = there.0 } in
      by y there.2 (compare_from start (point a.documents a.last) y (gathered_leads SaysStructure directory reads a.documents a.last a.gathers) there.1)
    where
      by : (y : Point) → NextAt y.state (next.Document path s) → Compared (point a.documents a.last) y → ⊥
      by y at (Same e) = none_document path s (one_next a.last (next.Document path s) next.Nothing (subst (λ (p : Point). NextAt p.state (next.Document path s)) (sym e) at) a.all)
      by y at (Before m step rest) = let h = no_next (point a.documents a.last) m next.Nothing step a.all in none_document h.0 h.1.0 h.1.1
      by y at (After m step) = taken_flawed y m path s flaw step at lacks
  gathers_unflawed o asked told flaw a (AtNesting documents g place rule _ _ _ gathers stands asked_is told_is flaw_is) =
      let end = stops g place rule stands in
      let same = ended_once (point a.documents a.last) (point documents g) next.Nothing end.0 none_document end.1.1 a.all end.1.0
      (gathered_leads SaysStructure directory reads a.documents a.last a.gathers) (gathered_leads IsStructure directory reads documents g gathers) in
      let last : g ≡ a.last = sym (states a.documents documents a.last g same) in
      none_lacks a.last place rule a.all a.is.none (subst (λ (x : Gathered). HasNestingFlaw x place rule) last stands)

  pub lacks_ungathered : (o : Outline) (asked : List (List ℕ)) (told : List ℕ) (flaw : Flaw) → LacksOutline SaysStructure FailsStructure directory reads asked told flaw → GathersAll IsStructure directory reads o → ⊥
  lacks_ungathered o asked told flaw (AtDocument documents path s _ _ _ comes lacks asked_is told_is) f =
      let here = comes_from SaysStructure directory reads documents path s comes in
      let x : Point = record { documents = documents; state = here.0 } in
      by x here.2 (compare_from start x (point f.documents f.last) here.1 (gathered_leads IsStructure directory reads f.documents f.last f.gathers))
    where
      by : (x : Point) → NextAt x.state (next.Document path s) → Compared x (point f.documents f.last) → ⊥
      by x at (Same e) = none_document path s (one_next f.last (next.Document path s) next.Nothing (subst (λ (p : Point). NextAt p.state (next.Document path s)) e at) f.all)
      by x at (Before m step rest) = flawed_taken x m path s flaw step at lacks
      by x at (After m step) = let h = alone_next (point f.documents f.last) m next.Nothing step f.all in none_document h.0 h.1.0 h.1.1
  lacks_ungathered o asked told flaw (AtNesting documents g place rule _ _ _ gathers stands asked_is told_is flaw_is) f =
      let end = stops g place rule stands in
      let same = ended_once (point documents g) (point f.documents f.last) end.0 next.Nothing end.1.1 none_document end.1.0 f.all
      (gathered_leads SaysStructure directory reads documents g gathers) (gathered_leads IsStructure directory reads f.documents f.last f.gathers) in
      let last : g ≡ f.last = states documents f.documents g f.last same in
      none_lacks f.last place rule f.all f.is.none (subst (λ (x : Gathered). HasNestingFlaw x place rule) last stands)

  abbrev IsOne : List (List ℕ) → List ℕ → Flaw → List (List ℕ) → List ℕ → Flaw → Type 0
  IsOne asked told flaw others elsewhere another = (asked ≡ others) × (told ≡ elsewhere) × AreAlike flaw another

  alike : (one other : Flaw) (rule : Rule) (place : Place) → one ≡ Faulty rule place [] → other ≡ Faulty rule place [] → AreAlike one other
  alike one other rule place e f = subst (λ (x : Flaw). AreAlike x other) (sym e) (subst (λ (x : Flaw). AreAlike (Faulty rule place []) x) (sym f) (refl, refl))

  pub lacks_once : (asked : List (List ℕ)) (told : List ℕ) (flaw : Flaw) (others : List (List ℕ)) (elsewhere : List ℕ) (another : Flaw) → LacksOutline SaysStructure FailsStructure directory reads asked told flaw →
      LacksOutline IsStructure BreaksStructure directory reads others elsewhere another → IsOne asked told flaw others elsewhere another
  lacks_once asked told flaw others elsewhere another (AtDocument documents path s _ _ _ comes lacks asked_is told_is) (AtDocument documents2 path2 s2 _ _ _ comes2 lacks2 asked2 told2) =
      let here = comes_from SaysStructure directory reads documents path s comes in
      let there = comes_from IsStructure directory reads documents2 path2 s2 comes2 in
      let x : Point = record { documents = documents; state = here.0 } in
      let y : Point = record { documents = documents2; state = there.0 } in
      by x y here.2 there.2 refl refl (compare_from start x y here.1 there.1)
    where
      by : (x y : Point) → NextAt x.state (next.Document path s) → NextAt y.state (next.Document path2 s2) → x.documents ≡ documents → y.documents ≡ documents2 → Compared x y → IsOne asked told flaw others elsewhere another
      by x y at there e f (Same same) =
          let next_is : next.Document path2 s2 ≡ next.Document path s =
          one_then x.state (next.Document path2 s2) (next.Document path s) (subst (λ (p : Point). NextAt p.state (next.Document path2 s2)) (sym same) there) at in
          let path_is : path2 ≡ path = same_path path2 path s2 s next_is in
          let lacks_here : LacksFile (BreaksStructure s) reads (joined_path directory path) another =
          subst (λ (t : Setting). LacksFile (BreaksStructure t) reads (joined_path directory path) another) (same_setting path2 path s2 s next_is)
          (subst (λ (q : List ℕ). LacksFile (BreaksStructure s2) reads (joined_path directory q) another) path_is lacks2) in
          let documents_is : documents ≡ documents2 = sym e ∙ (ap (λ (p : Point). p.documents) same ∙ f) in
          let files : document_files directory documents ++ joined_path directory path ∷ [] ≡ document_files directory documents2 ++ joined_path directory path2 ∷ [] =
          λ i. document_files directory (documents_is i) ++ joined_path directory (sym path_is i) ∷ [] in (
            asked_is ∙ (files ∙ sym asked2),
            told_is ∙ (ap (joined_path directory) (sym path_is) ∙ sym told2),
            flawed_once (IsStructure s) (BreaksStructure s) reads steady (joined_path directory path) flaw another lacks lacks_here,
          )
      by x y at there e f (Before m step rest) = absurd (flawed_taken x m path s flaw step at lacks)
      by x y at there e f (After m step) = absurd (taken_flawed y m path2 s2 another step there lacks2)
  lacks_once asked told flaw others elsewhere another (AtDocument documents path s _ _ _ comes lacks asked_is told_is) (AtNesting documents2 g place rule _ _ _ gathers stands asked2 told2 flaw2) =
      let here = comes_from SaysStructure directory reads documents path s comes in
      let x : Point = record { documents = documents; state = here.0 } in
      by x here.2 (stops g place rule stands) (compare_from start x (point documents2 g) here.1 (gathered_leads IsStructure directory reads documents2 g gathers))
    where
      by : (x : Point) → NextAt x.state (next.Document path s) → (n : Next) × (IsNext g n × ((p : List ℕ) (s : Setting) → next.Document p s ≡ n → ⊥)) → Compared x (point documents2 g) → IsOne asked told flaw others elsewhere another
      by x at end (Same e) = absurd (end.1.1 path s (one_next g (next.Document path s) end.0 (subst (λ (p : Point). NextAt p.state (next.Document path s)) e at) end.1.0))
      by x at end (Before m step rest) = absurd (flawed_taken x m path s flaw step at lacks)
      by x at end (After m step) = let h = alone_next (point documents2 g) m end.0 step end.1.0 in absurd (end.1.1 h.0 h.1.0 h.1.1)
  lacks_once asked told flaw others elsewhere another (AtNesting documents g place rule _ _ _ gathers stands asked_is told_is flaw_is) (AtDocument documents2 path2 s2 _ _ _ comes2 lacks2 asked2 told2) =
      let there = comes_from IsStructure directory reads documents2 path2 s2 comes2 in
      let y : Point = record { documents = documents2; state = there.0 } in
      by y there.2 (stops g place rule stands) (compare_from start (point documents g) y (gathered_leads SaysStructure directory reads documents g gathers) there.1)
    where
      by : (y : Point) → NextAt y.state (next.Document path2 s2) → (n : Next) × (IsNext g n × ((p : List ℕ) (s : Setting) → next.Document p s ≡ n → ⊥)) → Compared (point documents g) y → IsOne asked told flaw others elsewhere another
      by y at end (Same e) = absurd (end.1.1 path2 s2 (one_next g (next.Document path2 s2) end.0 (subst (λ (p : Point). NextAt p.state (next.Document path2 s2)) (sym e) at) end.1.0))
      by y at end (Before m step rest) = let h = no_next (point documents g) m end.0 step end.1.0 in absurd (end.1.1 h.0 h.1.0 h.1.1)
      by y at end (After m step) = absurd (taken_flawed y m path2 s2 another step at lacks2)
  lacks_once asked told flaw others elsewhere another (AtNesting documents g place rule _ _ _ gathers stands asked_is told_is flaw_is) (AtNesting documents2 h place2 rule2 _ _ _ gathers2 stands2 asked2 told2 flaw2) =
      let end = stops g place rule stands in
      let other = stops h place2 rule2 stands2 in
      let same : point documents g ≡ point documents2 h = ended_once (point documents g) (point documents2 h) end.0 other.0 end.1.1 other.1.1 end.1.0 other.1.0
      (gathered_leads SaysStructure directory reads documents g gathers) (gathered_leads IsStructure directory reads documents2 h gathers2) in
      let documents_is : documents ≡ documents2 = ap (λ (p : Point). p.documents) same in
      let once = nesting_once g place place2 rule rule2 stands (subst (λ (x : Gathered). HasNestingFlaw x place2 rule2) (sym (states documents documents2 g h same)) stands2) in
      let faulty : Faulty (Nesting rule2) (place_at documents2 place2) [] ≡ Faulty (Nesting rule) (place_at documents place) [] =
      λ i. Faulty (Nesting (sym once.1 i)) (place_at (sym documents_is i) (sym once.0 i)) [] in
      let told_same : told_at directory documents place ≡ told_at directory documents2 place2 = λ i. told_at directory (documents_is i) (once.0 i) in (
        asked_is ∙ (ap (document_files directory) documents_is ∙ sym asked2),
        told_is ∙ (told_same ∙ sym told2),
        alike flaw another (Nesting rule) (place_at documents place) flaw_is (flaw2 ∙ faulty),
      )

-- ---- what is found alone is found

module _ (directory : List ℕ) (reads : List ReadNote) where
  pub gathers_plain : (documents : List SystemDocument) (g : Gathered) → Gathers SaysStructure directory reads documents g → Gathers IsStructure directory reads documents g
  gathers_plain documents g (Outermost said _ _ tells begins) =
      Outermost said documents g (is_said (IsStructure OUTERMOST) (BreaksStructure OUTERMOST) reads (joined_path directory top_path) said tells) begins
  gathers_plain documents g (Nested before old path s said _ _ gathers comes tells adds) =
      Nested before old path s said documents g (gathers_plain before old gathers) comes (is_said (IsStructure s) (BreaksStructure s) reads (joined_path directory path) said tells) adds

  pub comes_plain : (documents : List SystemDocument) (path : List ℕ) (s : Setting) → ComesDocument SaysStructure directory reads documents path s → ComesDocument IsStructure directory reads documents path s
  comes_plain documents path s (ComesTop _ _ _ none path_is s_is) = ComesTop documents path s none path_is s_is
  comes_plain documents path s (ComesNext _ _ _ g gathers comes) = ComesNext documents path s g (gathers_plain documents g gathers) comes

  pub all_plain : (o : Outline) → GathersAll SaysStructure directory reads o → GathersAll IsStructure directory reads o
  all_plain o a = record { documents = a.documents; last = a.last; gathers = gathers_plain a.documents a.last a.gathers; all = a.all; is = a.is }

  pub lacks_plain : (asked : List (List ℕ)) (told : List ℕ) (flaw : Flaw) → LacksOutline SaysStructure FailsStructure directory reads asked told flaw → LacksOutline IsStructure BreaksStructure directory reads asked told flaw
  lacks_plain asked told flaw (AtDocument documents path s _ _ _ comes lacks asked_is told_is) =
      AtDocument documents path s asked told flaw (comes_plain documents path s comes) (is_flawed (IsStructure s) (BreaksStructure s) reads (joined_path directory path) flaw lacks) asked_is told_is
  lacks_plain asked told flaw (AtNesting documents g place rule _ _ _ gathers stands asked_is told_is flaw_is) =
      AtNesting documents g place rule asked told flaw (gathers_plain documents g gathers) stands asked_is told_is flaw_is
