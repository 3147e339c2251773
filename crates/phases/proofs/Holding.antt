-- The watch as an automaton that reads a lane. Assumes nothing.
use Rattle.std.proofs.Common.{◌≡◌, ℕ, ◌-◌, ◌<◌, ◌≤◌, Bool, true, false, List, [], ◌∷◌, length, get_or, take, drop, Decides, sym, refl, ap, ◌∙◌, subst, arith}
use Rattle.std.proofs.lemmas.List.{take_all, length-take, get_or-take}
use Rattle.grade.specs.declared.upto.UpTo.{UpTo}
use Rattle.text.specs.declared.line.Line.{Line}
use Rattle.model.specs.Phases.{Opened}
use Rattle.model.specs.Moves.{Position, at}
use Rattle.model.specs.Watch.{Leads, Watched}
use Rattle.book.specs.declared.tables.Book.{Book}
use Rattle.book.specs.Lines.{lines}
use Rattle.book.proofs.Standing.{end_stands, bare_stands}
use Rattle.phases.specs.declared.table.Phases.{Phases}
use Rattle.phases.specs.Table.{used, Holds}
use Rattle.phases.specs.Nodes.{Marked, Enters, Links, EndsIn, LeadsFrom}
use Rattle.phases.specs.Held.{Takes, Taken}
use Rattle.phases.proofs.Marking.{any_both, both_from, from_both}

-- ---- what stands in the tables

module _ (b : Book) where
  -- a node that is marked, and whose end line stands
  pub any_ends : (nodes : List Bool) → Decides (any_both nodes b.ends) (EndsIn (lines b) (Marked nodes))
  any_ends nodes =
      let long = b.marked.0 in (
        λ e.
            let h = both_from nodes b.ends e in
            let lt = h.1 in
            let t : UpTo 63 = record { value = h.0; fits = omega arith } in
            (t, (end_stands b t).1 h.3, h.2),
        λ (t, s, m). from_both nodes b.ends t.value m ((end_stands b t).0 s),
      )

  -- an empty lane
  pub bare_takes : (mode : ℕ) → mode ≤ 15 → get_or b.bares mode false ≡ true → Takes (lines b) mode []
  bare_takes mode le mark = let p : UpTo 15 = record { value = mode; fits = le } in Takes.bare {p = p} ((bare_stands b p).1 mark)

  pub takes_bare : (mode : ℕ) → Takes (lines b) mode [] → get_or b.bares mode false ≡ true
  takes_bare mode (Takes.bare {p = p} s) = (bare_stands b p).0 s

-- ---- wagon by wagon

module _ (ls : List Line) where
  pub leads_end : (P : ℕ → Type 0) → LeadsFrom ls P [] → EndsIn ls P
  leads_end P (t, p, l) = last t p l
    where
      last : (t : ℕ) → P t → Leads ls t [] → EndsIn ls P
      last t p (Leads.ends {t = u} s) = (u, s, p)

  pub end_leads : (P : ℕ → Type 0) → EndsIn ls P → LeadsFrom ls P []
  end_leads P (u, s, p) = (u.value, p, Leads.ends s)

  pub leads_on : (P : ℕ → Type 0) (k : ℕ) (w : List ℕ) → LeadsFrom ls P (k ∷ w) → LeadsFrom ls (Links ls P k) w
  leads_on P k w (t, p, l) = first t k p l
    where
      first : (t k : ℕ) → P t → Leads ls t (k ∷ w) → LeadsFrom ls (Links ls P k) w
      first t k p (Leads.links {l = l} s more) = (l.to.value, (l, s, (p, refl), refl), more)

  pub on_leads : (P : ℕ → Type 0) (k : ℕ) (w : List ℕ) → LeadsFrom ls (Links ls P k) w → LeadsFrom ls P (k ∷ w)
  on_leads P k w (t, (l, s, (p, by), to), more) =
      (l.node.value, p, subst (λ j. Leads ls l.node.value (j ∷ w)) by (Leads.links s (subst (λ u. Leads ls u w) (sym to) more)))

  pub leads_like : (P Q : ℕ → Type 0) (w : List ℕ) → ((t : ℕ) → P t → Q t) → LeadsFrom ls P w → LeadsFrom ls Q w
  leads_like P Q w f (t, p, l) = (t, f t p, l)

  pub takes_read : (mode k : ℕ) (w : List ℕ) → Takes ls mode (k ∷ w) → LeadsFrom ls (Enters ls mode k) w
  takes_read mode k w (Takes.read {v = v} s l) = (v.node.value, (v, s, (refl, refl), refl), l)

  pub read_takes : (mode k : ℕ) (w : List ℕ) → LeadsFrom ls (Enters ls mode k) w → Takes ls mode (k ∷ w)
  read_takes mode k w (t, (v, s, (from, by), to), l) =
      subst (λ m. Takes ls m (k ∷ w)) from (subst (λ j. Takes ls v.mode.value (j ∷ w)) by (Takes.read s (subst (λ u. Leads ls u w) (sym to) l)))

  -- ---- in an opened phase, what is taken is watched

  pub watched_taken : (x : Position) → Watched ls x → Taken ls x
  watched_taken x (Watched.bare s o) = Takes.bare s
  watched_taken x (Watched.read s o l) = Takes.read s l

  pub taken_watched : (mode F : ℕ) (w : List ℕ) → Opened ls F → Takes ls mode w → Watched ls (at mode F w)
  taken_watched mode F w o (Takes.bare s) = Watched.bare s o
  taken_watched mode F w o (Takes.read s l) = Watched.read s o l

-- ---- the code's terms

pub lane_parts : (w : List ℕ) → 1 ≤ length w → w ≡ get_or w 0 0 ∷ take (length w - 1) (drop 1 w)
lane_parts [] le = absurd (omega arith)
lane_parts (k ∷ w) le = ap (λ r. k ∷ r) (sym (take_all (length (k ∷ w) - 1) w (omega arith)))

pub used_holds : (p : Phases) (xs : List ℕ) (F : ℕ) → xs ≡ used p → (k : ℕ) → k < length xs → get_or xs k 0 ≡ F → Holds p F
used_holds p xs F is k lt at =
    let e = ap length is in
    let long = p.places.0 in
    let few = p.places.1 in
    let n = length-take p.count p.table in
    let less : k < p.count = omega arith in
    (k, less, sym (get_or-take p.count p.table k 0 less) ∙ ap (λ ys. get_or ys k 0) (sym is) ∙ at)
