-- What is finished is a module of the standard's grammar (specs/Grammar.antt). Assumes nothing.
use Rattle.std.specs.Prelude.{◌≡◌, refl, Bool, true, false, cond, not, List, [], ◌∷◌, ℕ, ◌<◌, ◌^◌, ltb, length, take, drop}
use Rattle.std.proofs.Common.{sym, ap, subst, ◌∙◌, true≢false, take_at}
use Rattle.format.specs.Answers.{neither}
use Rattle.format.specs.Lists.{prints}
use Rattle.format.specs.Write.{Outcome}
use Rattle.frames.specs.Frames.{Frame}
use Rattle.frames.specs.Ids.{among}
use Rattle.frames.specs.Builder.{is_over}
use Rattle.frames.specs.declared.State.{State}
use Rattle.sections.specs.Section.{Ending, section_of}
use Rattle.sections.specs.Order.{order_most, order_ids, all_among}
use Rattle.sections.specs.Grammar.{Times, no_more, one_more, AnySection, Items, section_in_lem}
use Rattle.module.specs.Module.{module_of}
use Rattle.module.specs.Finish.{is_other, finishing, zero_exactly, accepts, clear}
use Rattle.module.specs.Sizes.{count_fits, size_fits}
use Rattle.module.specs.Grammar.{Module, module_is, held_in, said_by}

not_other : (order : List ℕ) → is_other order ≡ false → all_among order_ids order ≡ true
not_other order e = go (all_among order_ids order) (neither (ltb order_most (length order)) (not (all_among order_ids order)) e).1
  where
    go : (t : Bool) → not t ≡ false → t ≡ true
    go true n = refl
    go false n = absurd (true≢false n)

module _ (B : ℕ → List ℕ → Type 0) (state : State) (store : List ℕ) (e : Ending) where
  abbrev fs : List Frame
  fs = held_in state store

  sections_in : is_over state store ≡ false → e.given.count < 2 ^ 32 → Items B fs → (order : List ℕ) → all_among order_ids order ≡ true
      → Times (AnySection B) (length order) (prints (section_of e.given fs) order) (said_by e fs order)
  sections_in w c h [] a = no_more
  sections_in w c h (i ∷ order) a = go (among order_ids i) refl a (sections_in w c h order)
    where
      go : (t : Bool) → among order_ids i ≡ t → cond t (all_among order_ids order) false ≡ true
          → (all_among order_ids order ≡ true → Times (AnySection B) (length order) (prints (section_of e.given fs) order) (said_by e fs order))
          → Times (AnySection B) (length (i ∷ order)) (prints (section_of e.given fs) (i ∷ order)) (said_by e fs (i ∷ order))
      go true k a f = one_more (section_in_lem B e.given fs i k h c (count_fits state store w i) (size_fits state store w i e.given c)) (f a)
      go false k a f = absurd (true≢false (sym a))

  -- of a store within its limit
  pub module_in : is_over state store ≡ false → all_among order_ids e.order ≡ true → e.given.count < 2 ^ 32 → Items B (held_in state store)
      → Module B (module_of e (held_in state store)) (said_by e (held_in state store) e.order)
  unfolding module_of
  module_in w a c h = module_is (sections_in w c h e.order a)

  -- so what an accepted finish has written is one
  pub finish_in : (out : List ℕ) → (finishing state store e out).number ≡ 0 → e.given.count < 2 ^ 32 → Items B (held_in state store)
      → Module B (take (finishing state store e out).value (finishing state store e out).memory) (said_by e (held_in state store) e.order)
  finish_in out z c h =
      let n = (zero_exactly state store e out).0 z in
      let k = clear state store e out n in
      let m = module_of e fs in
      let q : take (finishing state store e out).value (finishing state store e out).memory ≡ m =
      ap (λ (o : Outcome). take o.value o.memory) (sym (accepts state store e out n)) ∙ take_at m (drop (length m) out) (length m) refl in
      subst (λ (s : List ℕ). Module B s (said_by e fs e.order)) (sym q) (module_in k.within (not_other e.order k.listed) c h)
