-- The fields of an edited object have the looks of the edited file.
use Rattle.std.proofs.Common.{◌≡◌, ℕ, zero, suc, ◌<◌, Bool, true, false, ◌||◌, cond, eqb, List, [], ◌∷◌, length, map, get_or, Option, Some, None, inl, inr, refl, sym, ◌∙◌, ap, subst, arith}
use Rattle.std.specs.{Prelude.{slice_get}, Option.{option_map, option_map_or, option_and_then}}
use Rattle.std.proofs.lemmas.{Bool.{cases_eq, eq-eqb, ne_eqb, or_parts, not-false}, List.{length-map}}
use Rattle.std.proofs.lemmas.Option.{none-some, same_Some, slice_get-map, slice_get_within}
use Rattle.oc_base.specs.{declared.format.Format.{Format}, declared.format.Word.{Word}, Formats.{word_for}}
use Rattle.oc_linking.specs.{declared.terms.Keep.{Keep}, declared.terms.Base.{Base}, declared.terms.Less.{Less}, Keeping.{carried_of}, Linking.{flags_in}}
use Rattle.oc_linking.specs.{Placing.{zeros}, Values.{Valuation, numbered, worthless}, Rules.{Named, Symbolic, Sectional}}
use Rattle.oc_linking.specs.declared.terms.Base.TheVariants as base
use Rattle.oc_linking.specs.declared.terms.Less.TheVariants as less
use Rattle.oc_linking.specs.Parts as parts
use Rattle.oc_linking.specs.Raising.{raised, raised_binding}
use Rattle.oc_linking.proofs.Dropping.{numbered-raised}
use Rattle.oc_neutral.specs.{declared.symbol.Symbol.{Symbol}, declared.reloc.Target.{Target}, declared.reloc.Reloc.{Reloc}, Objects.{Object, reloc_at}}
use Rattle.oc_neutral.specs.{Invariants.{IsThere, IsLessThere, IsObject}, Faces.{number_of, named_of, shown_symbols}}
use Rattle.oc_neutral.specs.Normal.{Place, local_place, place_among, cancels}
use Rattle.oc_neutral.specs.Dialects.{Dialect, Look, less_in, look_of, kept_fields, target_by, is_folded, looks_in}
use Rattle.oc_neutral.specs.Without.{symbols_stay, targets_dropped, takes_dropped, new_position, moved_less, moved_reloc, moved_target}
use Rattle.oc_neutral.specs.declared.reloc.Target.TheVariants as target
use Rattle.oc_shows.specs.{Computed.{zeros_outside}, Shows.{looks_of, reloc_look, Shows}}
use Rattle.oc_shows.proofs.Looking.{cancels-named, folds, look_among, look-normal, normal_look}
use Rattle.oc_neutral.proofs.{NormalLemmas.{section_for, place_among-there}, Positions.{there_at}, LeftObject.{left_is_object}}
use Rattle.oc_neutral.proofs.LeftParts.{symbol_there, section_free, moved_symbol}
use Rattle.oc_names.specs.{declared.edit.Edit.{Edit}, Rebinding.{after_fallbacks, bindings_of, normalized}, Kept.{keep_for}}
use Rattle.oc_names.specs.EditedShows.{named_after, is_difference_after, is_folded_after}
use Rattle.oc_names.specs.EditedLooks.{raised_less, raised_named, raised_look, look_after, looks_after, EditedKeepsLooks}
use Rattle.oc_drop.specs.{Steps.{then_by}, Dropping.{stays, left}}
use Rattle.oc_names.proofs.{NormalObject.{normalized_is_object}, ReboundSymbols.{symbols_after}, FiledSymbols.{numbers_settled}}
use Rattle.oc_names.proofs.{FixedSymbols.{IsFound, found_front}, FiledNames.{number-front}, NamedShows.{found_normal}, ReboundFields.{left_at}}
use Rattle.oc_names.proofs.{ReboundShows.{reloc-rebound}, EditedParts.{flags-same, numbers-after, single-words, steps_from, symbols-edited, long_numbers}}
use Rattle.oc_names.proofs.{EditSteps.{after, renamed_object, HasSteps}, EditedWorth.{place-filed}}
use Rattle.oc_drop.proofs.{Filed.{AreSingle, numbers_of}, DroppedSymbols.{carried_back}, DroppedShows.{clear-field, free-clear, reloc-left}}
use Rattle.oc_names.proofs.EditedParts as edited

-- ... sections by their positions among all

-- positions among all differ where those among the kept ones do
carried-same : (flags : List Bool) (i j : ℕ) → carried_of flags i ≡ carried_of flags j → i ≡ j
carried-same [] i j e = e
carried-same (true ∷ flags) zero zero e = refl
carried-same (true ∷ flags) zero (suc j) e = absurd (omega (arith, e))
carried-same (true ∷ flags) (suc i) zero e = absurd (omega (arith, e))
carried-same (true ∷ flags) (suc i) (suc j) e = ap suc (carried-same flags i j (omega (arith, e)))
carried-same (false ∷ flags) i j e = carried-same flags i j (omega (arith, e))

carried-eqb : (flags : List Bool) (i j : ℕ) → eqb (carried_of flags i) (carried_of flags j) ≡ eqb i j
carried-eqb flags i j = elim (cases_eq i j) [
  | inl same ↦ eq-eqb (carried_of flags i) (carried_of flags j) (ap (carried_of flags) same) ∙ sym (eq-eqb i j same)
  | inr other ↦ ne_eqb (carried_of flags i) (carried_of flags j) (λ e. other (carried-same flags i j e)) ∙ sym (ne_eqb i j other)
]

-- differences are the same
cancels-raised : (flags : List Bool) (b : Base) (t : Named) (l : Less) → cancels b (target_by (raised_named flags t)) (raised_less flags l) ≡ cancels b (target_by t) l
cancels-raised flags base.Address (Sectional k) (less.Section j) = carried-eqb flags k j
cancels-raised flags base.Address (Sectional k) less.Zero = refl
cancels-raised flags base.Address (Sectional k) less.Place = refl
cancels-raised flags base.Address (Sectional k) less.GotBase = refl
cancels-raised flags base.Address (Sectional k) less.ImageBase = refl
cancels-raised flags base.Address (Sectional k) less.Home = refl
cancels-raised flags base.Address (Symbolic k) l = refl
cancels-raised flags base.Slot t l = refl
cancels-raised flags base.GotBase t l = refl
cancels-raised flags base.HomeNumber t l = refl

-- what is taken, where sections moved
less-back : (stay : List Bool) (l : Less) → ((i : ℕ) → l ≡ less.Section i → i < length stay) → takes_dropped stay l ≡ false → raised_less stay (moved_less stay l) ≡ l
less-back stay (less.Section i) low clear = ap less.Section (carried_back stay i (low i refl) (not-false (get_or stay i true) clear))
less-back stay less.Zero low clear = refl
less-back stay less.Place low clear = refl
less-back stay less.GotBase low clear = refl
less-back stay less.ImageBase low clear = refl
less-back stay less.Home low clear = refl

-- ... the looks of a file

module _ (f : Dialect) (b : List ℕ) (keep : Keep) (symbols : List parts.Symbol) (s at : ℕ) where
  abbrev k : ℕ
  k = carried_of (flags_in f.rules b keep) s

  -- a field that has a look is not folded by the reader
  clear-look : (l : Look) → looks_in f b keep k at ≡ Some l → is_folded f b keep k at ≡ false
  unfolding looks_in
  clear-look l here = by (is_folded f b keep k at) here
    where
      by : (c : Bool) → cond c None (option_map (look_of k) (kept_fields f b keep k at)) ≡ Some l → c ≡ false
      by true e = absurd (none-some l e)
      by false e = refl

  -- what is left of it after the edits
  after-some : (l : Look) → looks_in f b keep k at ≡ Some l → looks_after f b keep symbols s at ≡ cond (is_difference_after symbols l) None (Some (look_after symbols l))
  unfolding is_folded_after
  after-some l here =
      ap (λ o. cond (is_folded f b keep k at || option_map_or (is_difference_after symbols) o false) None (option_map (look_after symbols) o)) here
      ∙ ap (λ c. cond (c || is_difference_after symbols l) None (Some (look_after symbols l))) (clear-look l here)

  after-none : looks_in f b keep k at ≡ None → looks_after f b keep symbols s at ≡ None
  after-none here = either (is_folded_after f b keep symbols s at) (option_map (look_after symbols) (looks_in f b keep k at)) (ap (option_map (look_after symbols)) here)
    where
      either : (c : Bool) (x : Option Look) → x ≡ None → cond c None x ≡ None
      either true x e = refl
      either false x e = e

module _ (f : Dialect) (b : List ℕ) (keep : Keep) (edits : List Edit) (to : Format) (n m : Object) (is : IsObject n) (shows : Shows f b keep n) (steps : HasSteps keep edits to n m) where
  abbrev flags : List Bool
  flags = flags_in f.rules b keep

  abbrev stay : List Bool
  stay = stays keep n

  abbrev syms : List Bool
  syms = symbols_stay stay n.symbols

  abbrev d : Object
  d = left keep n

  abbrev ws : List Symbol
  ws = steps.ws

  abbrev ys : List Symbol
  ys = after ws

  abbrev w : Word
  w = word_for n.format

  abbrev r : Object
  r = normalized d ys

  abbrev o : Object
  o = renamed_object edits to r

  abbrev S : List parts.Symbol
  S = shown_symbols o

  abbrev E : List parts.Symbol
  E = map (raised flags) S

  -- any valuation
  abbrev v : Valuation
  v = λ k. worthless

  long : length n.sections ≡ length stay
  long = sym (length-map n.sections _)

  pub flags-stay : flags ≡ stay
  flags-stay = flags-same f b keep edits to n m is shows steps

  pub d_is : IsObject d
  d_is = left_is_object stay n is long steps.clear

  pub r_is : IsObject r
  r_is = normalized_is_object d ys d_is (symbols_after d d_is.complete.symbols edits ys (ap (then_by after_fallbacks) steps.words ∙ steps.settle))

  pub same-numbers : numbers_of ys ≡ numbers_of d.symbols
  same-numbers = numbers-after f b keep edits to n m is shows steps

  pub single : AreSingle (numbers_of ys)
  single = subst (λ ns. AreSingle ns) (sym (numbers_settled (bindings_of ws) ws)) (single-words f b keep edits to n m is shows steps)

  -- symbols at one position before and after the words have one number
  pub numbers-at : (xs : List Symbol) (k : ℕ) (s : Symbol) → slice_get xs k ≡ Some s → slice_get (numbers_of xs) k ≡ Some s.number
  numbers-at xs k s here = slice_get-map (λ (s : Symbol). s.number) xs k ∙ ap (option_map (λ (s : Symbol). s.number)) here

  pub number-after : (j : ℕ) (x y : Symbol) → slice_get d.symbols j ≡ Some x → slice_get ys j ≡ Some y → y.number ≡ x.number
  number-after j x y here there = same_Some y.number x.number (sym (numbers-at ys j y there) ∙ ap (λ ns. slice_get ns j) same-numbers ∙ numbers-at d.symbols j x here)

  -- a target that stays a symbol, or became the section of a place
  named-place : (j number : ℕ) (place : Option Place) → number_of ys j ≡ number
      → raised_named stay (named_of ys (section_for place (target.Symbol j)))
      ≡ option_map_or (λ (x : Place). Sectional x.0) (option_map (λ (x : Place). (carried_of stay x.0, x.1)) place) (Symbolic number)
  named-place j number None e = ap Symbolic e
  named-place j number (Some x) e = refl

  -- what a field names
  named-left : (t : Target) → IsThere n t → place_among n.symbols t ≡ None → targets_dropped stay t ≡ false
      → raised_named stay (named_of ys (section_for (place_among ys (moved_target stay syms t)) (moved_target stay syms t))) ≡ named_after E (named_of n.symbols t)
  named-left (target.Section j) there free clear =
      ap (λ place. raised_named stay (named_of ys (section_for place (target.Section (new_position stay j))))) (section_free ys (new_position stay j))
      ∙ ap Sectional (carried_back stay j (omega (arith, there, long)) (not-false (get_or stay j true) clear))
  named-left (target.Symbol j) there free clear =
      let x = there_at n.symbols j there in
      let k : ℕ = new_position syms j in
      let stands = symbol_there stay n long steps.clear j x.0 x.1 (free-clear keep n is steps.clear zeros v j x.0 x.1 (sym (place_among-there n.symbols j x.0 x.1) ∙ free)) in
      let y = there_at ys k (let l = slice_get_within d.symbols k (moved_symbol stay n long steps.clear x.0) stands in let same = long_numbers ys d.symbols same-numbers in omega (arith, l, same)) in
      let found : IsFound edits n.format to ys S y.0 = found_front edits n.format to ys single k y.0 y.1 in
      let number : number_of n.symbols j ≡ y.0.number = ap (λ c. option_map_or (λ (s : Symbol). s.number) c 0) x.1 ∙ sym (number-after k (moved_symbol stay n long steps.clear x.0) y.0 stands y.1) in
      let now : number_of ys k ≡ number_of n.symbols j = ap (λ c. option_map_or (λ (s : Symbol). s.number) c 0) y.1 ∙ sym number in
      let named : numbered E (number_of n.symbols j) ≡ Some (raised flags found.symbol) = ap (numbered E) number ∙ numbered-raised w flags zeros zeros_outside S y.0.number ∙ ap (option_map (raised flags)) found.found in
      let place : local_place (raised_binding flags found.symbol.binding) ≡ option_map (λ (x : Place). (carried_of stay x.0, x.1)) (local_place y.0.binding) =
      ap (λ c. local_place (raised_binding flags c)) found.binding ∙ place-filed flags o.symbols y.0.binding ∙ ap (λ bs. option_map (λ (x : Place). (carried_of bs x.0, x.1)) (local_place y.0.binding)) flags-stay in
      ap (λ pl. raised_named stay (named_of ys (section_for pl (target.Symbol k)))) (place_among-there ys k y.0 y.1)
      ∙ named-place k (number_of n.symbols j) (local_place y.0.binding) now
      ∙ ap (λ pl. option_map_or (λ (x : Place). Sectional x.0) pl (Symbolic (number_of n.symbols j)))
      (sym (ap (option_and_then (λ (s : parts.Symbol). local_place s.binding)) named ∙ place))

  module _ (s at : ℕ) where
    abbrev j : ℕ
    j = carried_of stay s

    moved : Reloc → Reloc
    moved x = moved_reloc stay syms x

    -- a relocation of the object is looked at under the symbols after all words, or under all names
    look-named : (c : Option Reloc) → reloc_at r s at ≡ c → option_map (reloc_look o) c ≡ option_map (look_among ys) c
    look-named None here = refl
    look-named (Some q) here = ap (λ t. Some (record { base = q.form.base; less = q.form.less; width = q.form.width; check = q.form.check; target = t; hint = q.hint }))
        (by q.target (found_normal r r_is s at q here).target)
      where
        by : (t : Target) → IsThere r t → named_of o.symbols t ≡ named_of ys t
        by (target.Section i) there = refl
        by (target.Symbol i) there = ap Symbolic (number-front [] edits n.format to ys i there)

    look-of-object : looks_of o s at ≡ option_map (look_among ys) (option_and_then (left_at w ys s at) (reloc_at d s at))
    look-of-object = look-named (reloc_at r s at) refl ∙ ap (option_map (look_among ys)) (reloc-rebound d d_is ys same-numbers steps.fits s at)

    -- the look of a relocation that is left
    one-look : (x : Reloc) → reloc_at n j at ≡ Some x → raised_look stay (normal_look ys s (moved_reloc stay syms x)) ≡ look_after E (reloc_look n x)
    one-look x here =
        let c = clear-field keep n is steps.clear zeros v s at x here in
        let both = or_parts (targets_dropped stay x.target) (takes_dropped stay x.form.less) c.1 in
        let normal = found_normal d d_is s at (moved_reloc stay syms x) (reloc-left keep n is steps.clear zeros v s at ∙ ap (option_map (moved_reloc stay syms)) here) in
        let taken : raised_less stay (less_in s (moved_less stay x.form.less)) ≡ x.form.less =
        ap (λ t. raised_less stay (cond t less.Place (moved_less stay x.form.less))) normal.placed
        ∙ less-back stay x.form.less (λ i e. let there : i < length n.sections = subst (λ l. IsLessThere n l) e c.0.less in omega (arith, there, long)) both.1 in
        ap (λ l. record { base = x.form.base; less = l; width = x.form.width; check = x.form.check; target = raised_named stay (normal_look ys s (moved_reloc stay syms x)).target; hint = x.hint }) taken
        ∙ ap (λ t. record { base = x.form.base; less = x.form.less; width = x.form.width; check = x.form.check; target = t; hint = x.hint }) (named-left x.target c.0.target c.0.against both.0)

    -- and it is folded where the file's is
    pub one-folds : (x : Reloc) → reloc_at n j at ≡ Some x → folds ys (moved_reloc stay syms x) ≡ is_difference_after E (reloc_look n x)
    one-folds x here =
        let y : Reloc = moved_reloc stay syms x in
        let t : Target = section_for (place_among ys y.target) y.target in
        let c = clear-field keep n is steps.clear zeros v s at x here in
        let both = or_parts (targets_dropped stay x.target) (takes_dropped stay x.form.less) c.1 in
        sym (cancels-named ys y.form.base t y.form.less)
        ∙ sym (cancels-raised stay y.form.base (named_of ys t) y.form.less)
        ∙ ap (λ l. cancels x.form.base (target_by (raised_named stay (named_of ys t))) l)
        (less-back stay x.form.less (λ i e. let there : i < length n.sections = subst (λ l. IsLessThere n l) e c.0.less in omega (arith, there, long)) both.1)
        ∙ ap (λ u. cancels x.form.base (target_by u) x.form.less) (named-left x.target c.0.target c.0.against both.0)

    file-look : looks_in f b keep (carried_of flags s) at ≡ option_map (reloc_look n) (reloc_at n j at)
    file-look = ap (λ bs. looks_in f b keep (carried_of bs s) at) flags-stay ∙ sym (shows.looks j at)

    -- the looks are those of the edited file
    object-looks : option_map (raised_look flags) (looks_of o s at) ≡ looks_after f b keep E s at
    object-looks =
        ap (λ bs. option_map (raised_look bs) (looks_of o s at)) flags-stay
        ∙ ap (option_map (raised_look stay)) (look-of-object ∙ ap (λ c. option_map (look_among ys) (option_and_then (left_at w ys s at) c)) (reloc-left keep n is steps.clear zeros v s at))
        ∙ by (reloc_at n j at) refl
      where
        folded : (c : Bool) (x y : Look) → raised_look stay x ≡ y → option_map (raised_look stay) (cond c None (Some x)) ≡ cond c None (Some y)
        folded true x y e = refl
        folded false x y e = ap Some e

        by : (c : Option Reloc) → reloc_at n j at ≡ c
            → option_map (raised_look stay) (option_map (look_among ys) (option_and_then (left_at w ys s at) (option_map (moved_reloc stay syms) c))) ≡ looks_after f b keep E s at
        by None here = sym (after-none f b keep E s at (file-look ∙ ap (option_map (reloc_look n)) here))
        by (Some x) here =
            ap (option_map (raised_look stay)) (look-normal w ys s at (moved_reloc stay syms x))
            ∙ folded (folds ys (moved_reloc stay syms x)) (normal_look ys s (moved_reloc stay syms x)) (look_after E (reloc_look n x)) (one-look x here)
            ∙ ap (λ c. cond c None (Some (look_after E (reloc_look n x)))) (one-folds x here)
            ∙ sym (after-some f b keep E s at (reloc_look n x) (file-look ∙ ap (option_map (reloc_look n)) here))

    pub kept_looks : option_map (raised_look flags) (looks_of m s at) ≡ looks_after f b keep (edited.by f b keep edits to n m is shows steps).symbols s at
    kept_looks =
        subst (λ (z : Object). option_map (raised_look flags) (looks_of z s at) ≡ looks_after f b keep (edited.by f b keep edits to n m is shows steps).symbols s at) steps.made
        (object-looks ∙ ap (λ (xs : List parts.Symbol). looks_after f b keep xs s at) (symbols-edited f b keep edits to n m is shows steps))

pub edited_looks : EditedKeepsLooks
edited_looks f b wishes to n m is shows made s at =
    kept_looks f b (keep_for wishes f.format to) wishes.edits to n m is shows (steps_from f b wishes to n m shows.format made) s at
