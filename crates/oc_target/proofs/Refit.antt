-- Symbols whose commons get a target's alignments are worth the same, export the same and have the same names.
use Rattle.std.proofs.Common.{◌≡◌, ℕ, Bool, true, false, cond, List, [], ◌∷◌, map, Option, Some, None, refl, ◌∙◌, ap, arith}
use mathlib.Core.Path.{fun_ext}
use Rattle.std.specs.{Prelude.{eqb, slice_get, bytes_eq}, Option.{option_map, option_map_or, unwrap_or}}
use Rattle.std.proofs.lemmas.Option.{slice_get-map}
use Rattle.oc_base.specs.{declared.format.Format.{Format}, declared.format.Word.{Word}}
use Rattle.oc_linking.specs.{declared.terms.Binding.{Binding}, declared.terms.Binding.TheVariants.{Local, Global, Undefined, Common, Weak}}
use Rattle.oc_linking.specs.{declared.terms.Fallback.{Fallback}, Numbers.{or_else}, Placing.{Site, Placement, Outside, nowhere, is_fallback_gone}}
use Rattle.oc_linking.specs.Values.{Valued, worthless, numbered, strong_site, fallback_site, site_of, value_of, values}
use Rattle.oc_linking.specs.{Linking.{Address, export_at, export_of, exports}, Faithful.{sort_of, names_of}}
use Rattle.oc_linking.specs.declared.terms.Fallback.TheVariants as fallback
use Rattle.oc_linking.specs.Parts as parts
use Rattle.oc_neutral.specs.{declared.symbol.Symbol.{Symbol}, Alignments.{common_align}, Faces.{number_of, shown_fallback, shown_binding, shown_symbol}}
use Rattle.oc_target.specs.Fitted.{fitted_binding, fitted_symbol}

-- a symbol that is shown, in a target
abbrev pub refit : Format → parts.Symbol → parts.Symbol
refit target s = record {
  name = s.name;
  binding = fitted_binding target s.binding;
  mark = s.mark;
  vis = s.vis;
  size = s.size;
  pinned = s.pinned;
  number = s.number;
}

module _ (target : Format) where
  -- a symbol keeps its number
  pub number-fitted : (symbols : List Symbol) (k : ℕ) → number_of (map (fitted_symbol target) symbols) k ≡ number_of symbols k
  number-fitted symbols k = ap (λ o. option_map_or (λ (s : Symbol). s.number) o 0) (slice_get-map (fitted_symbol target) symbols k) ∙ own (slice_get symbols k)
    where
      own : (o : Option Symbol) → option_map_or (λ (s : Symbol). s.number) (option_map (fitted_symbol target) o) 0 ≡ option_map_or (λ (s : Symbol). s.number) o 0
      own None = refl
      own (Some s) = refl

  -- a fallback names the same
  fallback-fitted : (symbols : List Symbol) (f : Fallback) → shown_fallback (map (fitted_symbol target) symbols) f ≡ shown_fallback symbols f
  fallback-fitted symbols (fallback.Place s offset) = refl
  fallback-fitted symbols fallback.Zero = refl
  fallback-fitted symbols (fallback.Name k) = ap fallback.Name (number-fitted symbols k)

  -- a binding is shown in the target
  binding-fitted : (symbols : List Symbol) (b : Binding) → shown_binding (map (fitted_symbol target) symbols) (fitted_binding target b) ≡ fitted_binding target (shown_binding symbols b)
  binding-fitted symbols (Local v) = refl
  binding-fitted symbols (Global v) = refl
  binding-fitted symbols Undefined = refl
  binding-fitted symbols (Common size align) = refl
  binding-fitted symbols (Weak f) = ap Weak (fallback-fitted symbols f)

  -- a symbol is shown in the target
  symbol-fitted : (symbols : List Symbol) (s : Symbol) → shown_symbol (map (fitted_symbol target) symbols) (fitted_symbol target s) ≡ refit target (shown_symbol symbols s)
  symbol-fitted symbols s = ap (λ b. record { name = s.name; binding = b; mark = s.mark; vis = s.vis; size = s.size; pinned = s.pinned; number = s.number }) (binding-fitted symbols s.binding)

  -- so are all
  pub symbols-fitted : (symbols rest : List Symbol) → map (shown_symbol (map (fitted_symbol target) symbols)) (map (fitted_symbol target) rest) ≡ map (refit target) (map (shown_symbol symbols) rest)
  symbols-fitted symbols [] = refl
  symbols-fitted symbols (s ∷ rest) =
      ap (λ x. x ∷ map (shown_symbol (map (fitted_symbol target) symbols)) (map (fitted_symbol target) rest)) (symbol-fitted symbols s)
      ∙ ap (λ xs. refit target (shown_symbol symbols s) ∷ xs) (symbols-fitted symbols rest)

  -- a number finds the same symbol
  numbered-refit : (symbols : List parts.Symbol) (k : ℕ) → numbered (map (refit target) symbols) k ≡ option_map (refit target) (numbered symbols k)
  numbered-refit [] k = refl
  numbered-refit (s ∷ symbols) k = elim (eqb s.number k) as (λ b. cond b (Some (refit target s)) (numbered (map (refit target) symbols) k)
      ≡ option_map (refit target) (cond b (Some s) (numbered symbols k))) [ true ↦ refl | false ↦ numbered-refit symbols k ]

  -- which names there are, and what each is
  pub names-refit : (symbols : List parts.Symbol) (name : List ℕ) → names_of (λ size align. align) (map (refit target) symbols) name ≡ names_of (common_align target) symbols name
  names-refit [] name = refl
  names-refit (s ∷ symbols) name =
      ap (λ x. or_else (cond (bytes_eq s.name name) x None) (names_of (λ size align. align) (map (refit target) symbols) name)) (sort s.binding)
      ∙ ap (or_else (cond (bytes_eq s.name name) (sort_of (common_align target) s.binding) None)) (names-refit symbols name)
    where
      sort : (b : Binding) → sort_of (λ size align. align) (fitted_binding target b) ≡ sort_of (common_align target) b
      sort b = grind arith

  module _ (w : Word) (p : Placement) (e : Outside) where
    -- a symbol that is not Weak has the same site
    strong-refit : (x : Option Site) (b : Binding) → strong_site w p x (fitted_binding target b) ≡ strong_site w p x b
    strong-refit x b = grind arith

    -- so has a fallback
    fall-refit : (symbols : List parts.Symbol) (f : Fallback) → fallback_site w p e (map (refit target) symbols) f ≡ fallback_site w p e symbols f
    fall-refit symbols (fallback.Place s offset) = refl
    fall-refit symbols fallback.Zero = refl
    fall-refit symbols (fallback.Name k) =
        ap (λ o. unwrap_or (option_map (λ (s : parts.Symbol). strong_site w p (e.site s.name) s.binding) o) nowhere) (numbered-refit symbols k)
        ∙ named (numbered symbols k)
      where
        named : (o : Option parts.Symbol) → unwrap_or (option_map (λ (s : parts.Symbol). strong_site w p (e.site s.name) s.binding) (option_map (refit target) o)) nowhere
            ≡ unwrap_or (option_map (λ (s : parts.Symbol). strong_site w p (e.site s.name) s.binding) o) nowhere
        named None = refl
        named (Some s) = strong-refit (e.site s.name) s.binding

    -- every symbol has the same site
    site-refit : (symbols : List parts.Symbol) (name : List ℕ) (b : Binding) → site_of w p e (map (refit target) symbols) name (fitted_binding target b) ≡ site_of w p e symbols name b
    site-refit symbols name (Local v) = refl
    site-refit symbols name (Global v) = refl
    site-refit symbols name Undefined = refl
    site-refit symbols name (Common size align) = refl
    site-refit symbols name (Weak f) = ap (unwrap_or (e.site name)) (fall-refit symbols f)

    -- a symbol stays Local, or not
    local-refit : (b : Binding) → parts.is_local (fitted_binding target b) ≡ parts.is_local b
    local-refit b = grind arith

    -- every symbol is worth the same
    value-refit : (symbols : List parts.Symbol) (s : parts.Symbol) → value_of w p e (map (refit target) symbols) (refit target s) ≡ value_of w p e symbols s
    value-refit symbols s =
        ap (λ (site : Site). worth site (parts.is_local (fitted_binding target s.binding))) (site-refit symbols s.name s.binding)
        ∙ ap (λ b. worth (site_of w p e symbols s.name s.binding) b) (local-refit s.binding)
      where
        worth : Site → Bool → Valued
        worth site local = record { site = site; slot = cond local 0 (e.slot s.name) }

    -- so is every number
    pub values-refit : (symbols : List parts.Symbol) → values w (map (refit target) symbols) (map (refit target) symbols) p e ≡ values w symbols symbols p e
    values-refit symbols = fun_ext (λ k. ap (λ o. unwrap_or (option_map (value_of w p e (map (refit target) symbols)) (or_else o o)) worthless) (numbered-refit symbols k)
        ∙ each (numbered symbols k))
      where
        each : (o : Option parts.Symbol) → unwrap_or (option_map (value_of w p e (map (refit target) symbols)) (or_else (option_map (refit target) o) (option_map (refit target) o))) worthless
            ≡ unwrap_or (option_map (value_of w p e symbols) (or_else o o)) worthless
        each None = refl
        each (Some s) = value-refit symbols s

    -- what a symbol exports stays
    export-refit : (symbols : List parts.Symbol) (name : List ℕ) (b : Binding) → export_at w p e (map (refit target) symbols) name (fitted_binding target b) ≡ export_at w p e symbols name b
    export-refit symbols name (Local v) = refl
    export-refit symbols name (Global v) = refl
    export-refit symbols name Undefined = refl
    export-refit symbols name (Common size align) = refl
    export-refit symbols name (Weak f) = ap (λ (x : Site). cond (is_fallback_gone p f) None (Some (Address x.address))) (site-refit symbols name (Weak f))

    -- and so a part of the list
    from : (symbols rest : List parts.Symbol) (name : List ℕ) → parts.by_name (export_of w p e (map (refit target) symbols)) (map (refit target) rest) name
        ≡ parts.by_name (export_of w p e symbols) rest name
    from symbols [] name = refl
    from symbols (s ∷ rest) name =
        ap (λ x. or_else (cond (bytes_eq s.name name) x None) (parts.by_name (export_of w p e (map (refit target) symbols)) (map (refit target) rest) name)) (export-refit symbols s.name s.binding)
        ∙ ap (or_else (cond (bytes_eq s.name name) (export_of w p e symbols s) None)) (from symbols rest name)

    -- the exports stay
    pub exports-refit : (symbols : List parts.Symbol) → exports w p e (map (refit target) symbols) ≡ exports w p e symbols
    exports-refit symbols = fun_ext (λ name. from symbols symbols name)
