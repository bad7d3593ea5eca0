-- Each call that a state takes is answered. Assumes nothing.
use Rattle.std.proofs.Common.{◌≡◌, ℕ, Bool, true, false, eqb, List, length, replicate, sym, refl, ◌∙◌, ap₂, true≢false, eqb-true}
use lib.ListN.{length-replicate}
use Rattle.refusal.specs.Reports.{Verdict}
use Rattle.lattice.specs.Lattices.{Operations}
use Rattle.graph.specs.Shapes.{Shape}
use Rattle.filters.specs.Calls.{filter_call}
use Rattle.filters.specs.Weightings.{Weighting, weighting, Fits}
use Rattle.stories.specs.Calls.{hold_call, join_call, meet_call, forget_call, run_call}
use Rattle.stories.specs.Statements.{CallsAnswered}
use Rattle.stories.specs.Stories.{State, clear, holding, Lengths, lengths, lengths_of, vertices_suit, edges_suit, Call, step, hold, join, meet, forget, run, PassedFor, Transition, clear_step, holding_step, clear_hold, holding_join, holding_meet, holding_forget, clear_run, Takes, Fitting}
use Rattle.stories.proofs.Fitness.{transition_fits}

module _ {K : Type 0} (k : Operations K) where
  -- buffers of whatever lengths
  abbrev any : Lengths → Weighting K
  any p = weighting (replicate p.vertices k.lowest) (replicate p.edges k.lowest)

  any_long : (p : Lengths) → lengths_of (any p) ≡ p
  any_long p = ap₂ lengths (length-replicate p.vertices k.lowest) (length-replicate p.edges k.lowest)

  -- one buffer of n weights, passed for xs
  passed_list : (n m : ℕ) (xs : List K) → length xs ≡ m → (fit : Bool) → eqb n m ≡ fit → (ys : List K) × (length ys ≡ n) × (eqb n m ≡ true → ys ≡ xs)
  passed_list n m xs e true fit = (xs, e ∙ sym (eqb-true n m fit), λ _. refl)
  passed_list n m xs e false unfit = (replicate n k.lowest, length-replicate n k.lowest, λ fit. absurd (true≢false (sym fit ∙ unfit)))

  -- buffers of whatever lengths can be passed for w
  passed : (g : Shape) (p : Lengths) (w : Weighting K) → Fits g w → (b : Weighting K) × PassedFor g w p b
  passed g p w e =
      let vs = passed_list p.vertices g.order w.vertices e.0 (vertices_suit g p) refl in
      let ys = passed_list p.edges (length g.edges) w.edges e.1 (edges_suit g p) refl in
      (weighting vs.0 ys.0, record { long = ap₂ lengths vs.1 ys.1; same_vertices = vs.2; same_edges = ys.2 })

  -- a call that is made is one that the state takes
  pub transition_takes : {g : Shape} {x y : State K} {c : Call} {a : Verdict} → Transition k g x c a y → Takes x c
  transition_takes (clear_step f p q w b s r passed ls o e) = tt
  transition_takes (holding_step f p q w h b s r passed ls o e) = tt
  transition_takes (clear_hold p q w b s r passed ls o e) = tt
  transition_takes (holding_join p q w h b c r lw lh o e) = tt
  transition_takes (holding_meet p q w h b c r lw lh o e) = tt
  transition_takes (holding_forget p q w h b c r lw lh o e) = tt
  transition_takes (clear_run text p q t w b s c r passed ls lc o e) = tt

  -- what a call that is made shows
  witness : {g : Shape} {x y : State K} {c : Call} {a : Verdict} → Fitting g x → Transition k g x c a y → (a : Verdict) × ((y : State K) × (Transition k g x c a y × Fitting g y))
  witness {g} {x} {y} {c} {a} e m = (a, (y, (m, transition_fits k g m e)))

  pub calls_answered : CallsAnswered k
  calls_answered g sound (clear w r) (step f p q) e takes =
      let b = passed g p w e in
      witness e (clear_step f p q w b.0 (any q) r b.1 (any_long q) (filter_call k g f b.0 (any q)) refl)
  calls_answered g sound (clear w r) (hold p q) e takes =
      let b = passed g p w e in
      witness e (clear_hold p q w b.0 (any q) r b.1 (any_long q) (hold_call g b.0 (any q)) refl)
  calls_answered g sound (clear w r) (join p q) e takes = absurd takes
  calls_answered g sound (clear w r) (meet p q) e takes = absurd takes
  calls_answered g sound (clear w r) (forget p q) e takes = absurd takes
  calls_answered g sound (clear w r) (run text p q t) e takes =
      let b = passed g p w e in
      witness e (clear_run text p q t w b.0 (any q) (any t) r b.1 (any_long q) (any_long t) (run_call k g text b.0 (any q) (any t) r) refl)
  calls_answered g sound (holding w h r) (step f p q) e takes =
      let b = passed g p w e.0 in
      witness e (holding_step f p q w h b.0 (any q) r b.1 (any_long q) (filter_call k g f b.0 (any q)) refl)
  calls_answered g sound (holding w h r) (hold p q) e takes = absurd takes
  calls_answered g sound (holding w h r) (join p q) e takes =
      let b = passed g p w e.0 in
      let c = passed g q h e.1 in
      witness e (holding_join p q w h b.0 c.0 r b.1 c.1 (join_call k g b.0 c.0) refl)
  calls_answered g sound (holding w h r) (meet p q) e takes =
      let b = passed g p w e.0 in
      let c = passed g q h e.1 in
      witness e (holding_meet p q w h b.0 c.0 r b.1 c.1 (meet_call k g b.0 c.0) refl)
  calls_answered g sound (holding w h r) (forget p q) e takes =
      let b = passed g p w e.0 in
      let c = passed g q h e.1 in
      witness e (holding_forget p q w h b.0 c.0 r b.1 c.1 (forget_call k g b.0 c.0) refl)
  calls_answered g sound (holding w h r) (run text p q t) e takes = absurd takes
