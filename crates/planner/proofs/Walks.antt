-- The way back along a search, one link at a time.
use Rattle.std.proofs.Common.{◌≡◌, ℕ, zero, suc, ◌<◌, Bool, true, false, cond, ◌&&◌, ◌⊎◌, List, [], ◌∷◌, get_or, sym, refl, ap, ◌∙◌, subst, ap₂, inl, inr, arith}
use Rattle.std.proofs.Math.Bool.{and_comm, and_assoc}
use Rattle.std.proofs.lemmas.Bool.{cond-true, cond-false, and_parts}
use Rattle.words.specs.Words.{bit}
use Rattle.groups.specs.Group.{Ordered}
use Rattle.groups.specs.Sums.{minus, lesser}
use Rattle.flow.specs.Flow.{State}
use Rattle.flow.specs.Routes.{Hop, bump, push, least, amount, held_along}
use Rattle.flow.specs.Search.{Way as Links, trace}
use Rattle.flow.proofs.Pushes.{push_back}
use Rattle.amounts.specs.Kind.{Kind}
use Rattle.planner.specs.declared.way.Hops.{Hops}
use Rattle.planner.specs.declared.way.Way.{Way}
use Rattle.planner.specs.declared.state.Link.{Link}
use Rattle.planner.specs.declared.state.Words.{Words}
use Rattle.planner.specs.Hops.{Among, Begins, Ends, GoesOn}
use Rattle.planner.specs.Inside.{Inside, marks_of}
use Rattle.planner.specs.Model.{marked, tests}
use Rattle.planner.specs.Tables.{table}
use Rattle.planner.specs.Ways.{trail, least_along, fits_along, held_back}

module _ (w : Words) (y : Way) where
  -- the way from giver j on, when m more links of it may be walked
  abbrev pub On : ℕ → ℕ → List Hop → Type 0
  On m j hs = trail w y ≡ trace (tests w) m (marked (marks_of y.marks) y.receiver) j hs

  -- where the walk back stands, after these hops
  pub record Back (s : Hops) (hs : List Hop) : Type 0 where
    pub on : On s.turns s.giver hs
    pub inside : s.giver < w.n
    pub way : s.way ≡ y
    pub givers : y.givers ≡ w.givers

  -- the hop of a link
  abbrev pub hop_of : Link → Hop
  hop_of l = record { over = l.receiver; to = l.giver }

  module _ (s t : Hops) (l : Link) (hs : List Hop) (g : GoesOn s l t) (p : Back s hs) where
    further : Links
    further = trace (tests w) t.turns (marked (marks_of y.marks) y.receiver) (get_or (marks_of y.marks).from (get_or (marks_of y.marks).via s.giver 0) 0) (record { over = get_or (marks_of y.marks).via s.giver 0; to = s.giver } ∷ hs)

    over : get_or (marks_of y.marks).via s.giver 0 ≡ l.receiver
    over = sym (g.receiver ∙ ap (λ c. get_or (marks_of c.marks).via s.giver 0) p.way)

    there : get_or (marks_of y.marks).from (get_or (marks_of y.marks).via s.giver 0) 0 ≡ t.giver
    there = ap (λ a. get_or (marks_of y.marks).from a 0) over ∙ sym (g.further ∙ ap (λ c. get_or (marks_of c.marks).from l.receiver 0) p.way)

    on_next : On t.turns (get_or (marks_of y.marks).from (get_or (marks_of y.marks).via s.giver 0) 0) (record { over = get_or (marks_of y.marks).via s.giver 0; to = s.giver } ∷ hs)
    unfolding trace further
    on_next =
        p.on ∙ ap (λ b. trace (tests w) b (marked (marks_of y.marks) y.receiver) s.giver hs) g.turns
        ∙ cond-false (bit w.givers s.giver) (record { first = s.giver; hops = hs }) further (sym (ap (λ v. bit v s.giver) (ap (λ c. c.givers) p.way ∙ p.givers)) ∙ g.empty)

    pub back_next : Inside w.n (marks_of y.marks).from (marks_of y.marks).via → Back t (hop_of l ∷ hs)
    back_next f =
        record {
          on = on_next
              ∙ ap₂ (λ j h. trace (tests w) t.turns (marked (marks_of y.marks) y.receiver) j (h ∷ hs)) there (ap₂ (λ a b. record { over = a; to = b }) over (sym g.giver));
          inside = subst (λ j. j < w.n) there (f.sources (get_or (marks_of y.marks).via s.giver 0) (omega (arith, p.inside)));
          way = g.way ∙ p.way;
          givers = p.givers;
        }

    pub link_inside : Inside w.n (marks_of y.marks).from (marks_of y.marks).via → (l.giver < w.n) × (l.receiver < w.n)
    link_inside f =
        (subst (λ a. a < w.n) (sym g.giver) p.inside, subst (λ a. a < w.n) over (f.bridges s.giver (omega (arith, p.inside))))

  pub back_end : (s t : Hops) (hs : List Hop) → Ends s t → Back s hs → (t.giver < w.n) × (trail w y ≡ record { first = t.giver; hops = hs })
  unfolding trace
  back_end s t hs e p = (subst (λ j. j < w.n) (sym e.giver) p.inside, p.on ∙ go s.turns e.starts ∙ ap (λ j. record { first = j; hops = hs }) (sym e.giver))
    where
      go : (m : ℕ) → (m ≡ 0) ⊎ (bit s.way.givers s.giver ≡ true) → trace (tests w) m (marked (marks_of y.marks) y.receiver) s.giver hs ≡ record { first = s.giver; hops = hs }
      go zero e = refl
      go (suc m) (inl e) = absurd (omega arith)
      go (suc m) (inr e) = cond-true (bit w.givers s.giver) (record { first = s.giver; hops = hs }) _ (sym (ap (λ v. bit v s.giver) (ap (λ c. c.givers) p.way ∙ p.givers)) ∙ e)

-- a way among members ends at one of them, and its search was among them
module _ (w : Words) (y : Way) (a : Among w y) where
  pub receiver_inside : y.receiver < w.n
  receiver_inside = subst (λ n. y.receiver < n) a.members y.ends

  pub among_inside : Inside w.n (marks_of y.marks).from (marks_of y.marks).via
  among_inside = subst (λ n. Inside n (marks_of y.marks).from (marks_of y.marks).via) a.members y.inside

  -- the walk as it begins
  pub back_start : (s : Hops) → Begins y s → Back w y s []
  back_start s b =
      record {
        on = ap₂ (λ m j. trace (tests w) m (marked (marks_of y.marks) y.receiver) j []) (sym (b.turns ∙ a.members)) (sym b.giver);
        inside = subst (λ j. j < w.n) (sym b.giver) (subst (λ n. y.last < n) a.members y.seen);
        way = b.way;
        givers = a.givers;
      }

module _ {V : Type 0} (k : Kind V) (w : Words) (s : State k.group.Element) (y : Way) where
  -- the least of the amounts on the links walked
  pub record Least (h : Hops) (d : V) : Type 0 where
    pub hops : List Hop
    pub back : Back w y h hops
    pub good : k.value d ≡ true
    pub value : k.element d ≡ least k.group s.x (s.r y.receiver) hops

  pub least_next : (h t : Hops) (l : Link) (d x e : V) → Inside w.n (marks_of y.marks).from (marks_of y.marks).via → GoesOn h l t → k.element x ≡ s.x l.giver l.receiver
      → k.value e ≡ true → k.element e ≡ lesser k.group (k.element x) (k.element d)
      → Least h d → Least t e
  least_next h t l d x e f g a v m p =
      record {
        hops = hop_of w y l ∷ p.hops;
        back = back_next w y h t l p.hops g p.back f;
        good = v;
        value = m ∙ ap₂ (lesser k.group) a p.value;
      }

  pub least_end : (h t : Hops) (d x r : V) → Ends h t → (p : Least h d)
      → k.element x ≡ s.g t.giver → k.element r ≡ lesser k.group (k.element x) (k.element d) → k.element r ≡ least_along k (trail w y) s y.receiver
  unfolding amount
  least_end h t d x r e p a m = m ∙ ap₂ (lesser k.group) a p.value ∙ ap (λ c. amount k.group s c.first c.hops y.receiver) (sym (back_end w y h t p.hops e p.back).1)

  -- the amounts that d would leave on the links walked, but for the first one, are held
  abbrev pub behind : k.group.Element → List Hop → Bool
  behind d [] = true
  behind d (h ∷ hs) = k.held (minus k.group (s.x h.to h.over) d) && held_along k.group k.held d h.to hs y.receiver s.x

  -- the receiver to whom the links walked lead
  abbrev pub leads : List Hop → ℕ
  leads [] = y.receiver
  leads (h ∷ hs) = h.over

  pub held_all : (d : k.group.Element) (v : ℕ) (hs : List Hop)
      → (k.held (k.group.plus (s.x v (leads hs)) d) && behind d hs) ≡ held_along k.group k.held d v hs y.receiver s.x
  held_all d v [] = and_true (k.held (k.group.plus (s.x v y.receiver) d))
    where
      and_true : (b : Bool) → (b && true) ≡ b
      and_true true = refl
      and_true false = refl
  held_all d v (h ∷ hs) = refl

  -- so far as the links were walked, the test says whether d fits
  pub record Fits (d : k.group.Element) (h : Hops) (i : ℕ) (ok : Bool) : Type 0 where
    pub hops : List Hop
    pub back : Back w y h hops
    pub inside : i < w.n
    pub there : i ≡ leads hops
    pub told : ok ≡ behind d hops

  module _ (d : k.group.Element) where
    -- the first link too
    along : (j i : ℕ) (hs : List Hop) (ok sum : Bool) → i ≡ leads hs → ok ≡ behind d hs → sum ≡ k.held (k.group.plus (s.x j i) d)
        → (ok && sum) ≡ held_along k.group k.held d j hs y.receiver s.x
    along j i hs ok sum e t h =
        and_comm ok sum ∙ ap₂ (λ a b. a && b) (h ∙ ap (λ r. k.held (k.group.plus (s.x j r) d)) e) t ∙ held_all d j hs

    pub fits_next : (h t : Hops) (l : Link) (i : ℕ) (ok sum less : Bool) → Inside w.n (marks_of y.marks).from (marks_of y.marks).via → GoesOn h l t
        → sum ≡ k.held (k.group.plus (s.x l.giver i) d) → less ≡ k.held (minus k.group (s.x l.giver l.receiver) d)
        → Fits d h i ok → Fits d t l.receiver ((ok && sum) && less)
    fits_next h t l i ok sum less f g hs hl p =
        record {
          hops = hop_of w y l ∷ p.hops;
          back = back_next w y h t l p.hops g p.back f;
          inside = (link_inside w y h t l p.hops g p.back f).1;
          there = refl;
          told = and_comm (ok && sum) less ∙ ap₂ (λ a o. a && o) hl (along l.giver i p.hops ok sum p.there p.told hs);
        }

    pub fits_end : (h t : Hops) (i : ℕ) (ok sum give get : Bool) → Ends h t → (p : Fits d h i ok)
        → sum ≡ k.held (k.group.plus (s.x t.giver i) d) → give ≡ k.held (minus k.group (s.g t.giver) d) → get ≡ k.held (minus k.group (s.r y.receiver) d)
        → (((ok && sum) && give) && get) ≡ fits_along k (trail w y) s y.receiver d
    fits_end h t i ok sum give get e p hs hg hr =
        and_assoc (ok && sum) give get ∙ ap₂ (λ a b. a && b) (along t.giver i p.hops ok sum p.there p.told hs) (ap₂ (λ a b. a && b) hg hr)
        ∙ ap (λ c. fits_along k c s y.receiver d) (sym (back_end w y h t p.hops e p.back).1)

    -- d has been moved along the links walked, but for the first one, from the giver of receiver i; the table xs is what that left
    pub record Moved (h : Hops) (i : ℕ) (xs : List V) : Type 0 where
      pub hops : List Hop
      pub back : Back w y h hops
      pub inside : i < w.n
      pub half : (v : ℕ) → (writable : held_back k.group k.held d v hops y.receiver s.x ≡ true) → k.held (k.group.plus (table k xs v i) d) ≡ true
      pub moved : (v : ℕ) → bump k.group (table k xs) v i d ≡ push k.group d v hops y.receiver s.x

    -- a way that is writable is so from each of its givers on
    Writable : Links → Type 0
    Writable way = held_back k.group k.held d way.first way.hops y.receiver s.x ≡ true

    writable_from : (b j : ℕ) (hs : List Hop) → Writable (trace (tests w) b (marked (marks_of y.marks) y.receiver) j hs) → Writable (record { first = j; hops = hs })
    unfolding trace Writable
    writable_from zero j hs h = h
    writable_from (suc b) j hs h =
        go (bit w.givers j) h (writable_from b (get_or (marks_of y.marks).from (get_or (marks_of y.marks).via j 0) 0) (record { over = get_or (marks_of y.marks).via j 0; to = j } ∷ hs))
      where
        more : Links
        more = trace (tests w) b (marked (marks_of y.marks) y.receiver) (get_or (marks_of y.marks).from (get_or (marks_of y.marks).via j 0) 0) (record { over = get_or (marks_of y.marks).via j 0; to = j } ∷ hs)

        go : (t : Bool) → Writable (cond t (record { first = j; hops = hs }) more)
            → (Writable more → Writable (record { first = get_or (marks_of y.marks).from (get_or (marks_of y.marks).via j 0) 0; hops = record { over = get_or (marks_of y.marks).via j 0; to = j } ∷ hs }))
            → Writable (record { first = j; hops = hs })
        go true h ih = h
        go false h ih = (and_parts (held_back k.group k.held d j hs y.receiver s.x) _ (ih h)).0

    module _ (writable : held_back k.group k.held d (trail w y).first (trail w y).hops y.receiver s.x ≡ true) where
      writable_on : (m j : ℕ) (hs : List Hop) → On w y m j hs → held_back k.group k.held d j hs y.receiver s.x ≡ true
      unfolding Writable
      writable_on m j hs o = writable_from m j hs (subst Writable o writable)

      -- the link on which the walk stands may be raised
      pub raise_room : (h : Hops) (i : ℕ) (xs : List V) → Moved h i xs → k.held (k.group.plus (table k xs h.giver i) d) ≡ true
      raise_room h i xs p = p.half h.giver (writable_on h.turns h.giver p.hops p.back.on)

    pub moved_end : (h t : Hops) (i : ℕ) (xs ys : List V) → Ends h t → (p : Moved h i xs) → table k ys ≡ bump k.group (table k xs) t.giver i d
        → (t.giver ≡ (trail w y).first) × (table k ys ≡ push k.group d (trail w y).first (trail w y).hops y.receiver s.x)
    moved_end h t i xs ys e p raised =
        let way = (back_end w y h t p.hops e p.back).1 in
        (ap (λ c. c.first) (sym way), raised ∙ p.moved t.giver ∙ ap (λ c. push k.group d c.first c.hops y.receiver s.x) (sym way))

    module _ (h t : Hops) (l : Link) (i : ℕ) (xs ys : List V) (g : GoesOn h l t) (f : Inside w.n (marks_of y.marks).from (marks_of y.marks).via) (p : Moved h i xs)
        (raised : table k ys ≡ bump k.group (table k xs) l.giver i d) where
      -- the first link too
      whole : table k ys ≡ push k.group d l.giver p.hops y.receiver s.x
      whole = raised ∙ p.moved l.giver

      on_further : Back w y t (hop_of w y l ∷ p.hops)
      on_further = back_next w y h t l p.hops g p.back f

      pub lower_room : held_back k.group k.held d (trail w y).first (trail w y).hops y.receiver s.x ≡ true → k.held (minus k.group (table k ys l.giver l.receiver) d) ≡ true
      lower_room writable =
          ap (λ c. k.held (minus k.group (c l.giver l.receiver) d)) whole
          ∙ (and_parts _ _ (and_parts (held_back k.group k.held d l.giver p.hops y.receiver s.x) _ (writable_on writable t.turns t.giver (hop_of w y l ∷ p.hops) on_further.on)).1).0

      pub moved_next : Ordered k.group → (zs : List V) → table k zs ≡ bump k.group (table k ys) l.giver l.receiver (k.group.neg d) → Moved t l.receiver zs
      moved_next L zs lowered =
          let left : table k zs ≡ bump k.group (push k.group d l.giver p.hops y.receiver s.x) l.giver l.receiver (k.group.neg d) = lowered ∙ ap (λ c. bump k.group c l.giver l.receiver (k.group.neg d)) whole in
          record {
            hops = hop_of w y l ∷ p.hops;
            back = on_further;
            inside = (link_inside w y h t l p.hops g p.back f).1;
            half = λ v h. ap (λ c. k.held (k.group.plus (c v l.receiver) d)) left ∙ (and_parts _ _ (and_parts (held_back k.group k.held d l.giver p.hops y.receiver s.x) _ h).1).1;
            moved = λ v. ap (λ c. bump k.group c v l.receiver d) left ∙ sym (push_back k.group L d v (hop_of w y l) p.hops y.receiver s.x);
          }
