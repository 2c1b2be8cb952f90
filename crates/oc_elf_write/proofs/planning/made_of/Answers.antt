-- What is made is that of the object.
use Rattle.std.proofs.Common.{◌≡◌, ℕ, ◌+◌, ◌-◌, ◌^◌, ◌<◌, cond, List, length, get_or, refl, rules, sym, ◌∙◌, ap, subst, arith}
use Rattle.oc_target.specs.Fitted.{IsFitted}
use Rattle.oc_neutral.specs.{Objects.{Object}, Families.{is_many}}
use Rattle.oc_elf.specs.Classes.{format_of, is_big, word_of}
use Rattle.oc_shelf.specs.Writing.Parts.{place_where}
use Rattle.oc_elf_file.specs.{Heads.{heads_of, head_where, is_shstrtab_head}, Canonical.{shown_count, shown_names}}
use Rattle.oc_elf_file.specs.Layout.{is_head_table, laid_parts, parts_of}
use Rattle.oc_elf_file.proofs.{CodedLaws.{many_is}, HeaderFits.{count_low, names_low}}
use Rattle.oc_elf_write.specs.{declared.heads.Head.{Head}, declared.lines.Line.{Line}, Keys.{AreKeys}, LaidParts.{AreLaid}, Raws.{all_raws}}
use Rattle.oc_elf_write.proofs.{HeadLemmas.{as_many_heads, ready_for}, HeaderLemmas.{symtab_number, shstrtab_number}, LaidLemmas.{places_many, table_place}}
use Rattle.oc_elf_write.proofs.planning.made_of.Goals as goal

pub of-requires-clause-few : goal.of-requires-clause-few
of-requires-clause-few c = subst (λ (ls : List Line). length ls < 2 ^ 32) (sym c.deref-2.ensures.value) c.in_ok-lines.ensures.few

pub bodies_of-requires-clause-few : goal.bodies_of-requires-clause-few
bodies_of-requires-clause-few c = subst (λ (hs : List Head). length hs < 2 ^ 32) (sym c.deref-3.ensures.value) c.in_ok-heads.ensures.few

pub overflow_cast-count : goal.overflow_cast-count
overflow_cast-count c =
    let long : c.len-count.result ≡ length c.in_ok-heads.heads.items = search rules in
    let few = c.in_ok-heads.ensures.few in
    omega (arith, long, few)

pub stored_shdrs-requires-clause-made : goal.stored_shdrs-requires-clause-made
stored_shdrs-requires-clause-made c =
    let class = c.args.class in
    let m : Object = c.neutral-neutral.result.now in
    let is = ready_for class c.args.fitted m c.neutral-neutral.ensures c.requires c.is_fitted.ensures in
    let heads = as_many_heads m c.in_ok-heads.heads.items c.in_ok-heads.ensures.heads in
    let long : c.len-count.result ≡ length c.in_ok-heads.heads.items = search rules in
    let number = c.symtab_number.ensures in
    let place = symtab_number m in
    let same_tables : cond {A = ℕ} (is_many m.format) 4 3 ≡ cond {A = ℕ} (is_big class) 4 3 = ap (λ b. cond {A = ℕ} b 4 3) (many_is class m is) in
    record {
      keys = subst (AreKeys m) (sym c.deref-6.ensures.value) c.in_ok-keys.ensures;
      numbers = c.in_ok-numbers.ensures;
      inner = c.in_ok-lines.ensures.inner;
      bodies = c.in_ok-bodies.ensures;
      heads = long ∙ heads;
      symtab = omega (arith, number, place, same_tables, long, heads);
    }

pub index-requires : goal.index-requires
index-requires c =
    let class = c.args.class in
    let m : Object = c.neutral-neutral.result.now in
    let heads = as_many_heads m c.in_ok-heads.heads.items c.in_ok-heads.ensures.heads in
    let long : c.len.result ≡ length c.in_ok-heads.heads.items = search rules in
    let begins = ap length c.in_ok-layout.ensures.begins in
    let many = places_many class m in
    omega (arith, heads, long, begins, many)

pub file_header-ehdr-requires-clause-some : goal.file_header-ehdr-requires-clause-some
file_header-ehdr-requires-clause-some c =
    let long : c.len-count.result ≡ length c.in_ok-heads.heads.items = search rules in
    let some = c.in_ok-heads.ensures.some in
    omega (arith, long, some)

pub file_header-ehdr-requires-clause-count : goal.file_header-ehdr-requires-clause-count
file_header-ehdr-requires-clause-count c =
    let class = c.args.class in
    let m : Object = c.neutral-neutral.result.now in
    let is = ready_for class c.args.fitted m c.neutral-neutral.ensures c.requires c.is_fitted.ensures in
    let heads = as_many_heads m c.in_ok-heads.heads.items c.in_ok-heads.ensures.heads in
    let long : c.len-count.result ≡ length c.in_ok-heads.heads.items = search rules in
    subst (λ k. shown_count class k < 2 ^ 16) (sym (long ∙ heads)) (count_low class m is)

pub file_header-ehdr-requires-clause-names : goal.file_header-ehdr-requires-clause-names
file_header-ehdr-requires-clause-names c =
    let class = c.args.class in
    let m : Object = c.neutral-neutral.result.now in
    let is = ready_for class c.args.fitted m c.neutral-neutral.ensures c.requires c.is_fitted.ensures in
    let heads = as_many_heads m c.in_ok-heads.heads.items c.in_ok-heads.ensures.heads in
    let long : c.len-count.result ≡ length c.in_ok-heads.heads.items = search rules in
    let place = shstrtab_number m in
    let last : head_where m is_shstrtab_head ≡ c.len-count.result - 1 = omega (arith, place, heads, long) in
    subst (λ k. shown_names class k < 2 ^ 16) last (names_low class m is)

pub symtab_number-requires : goal.symtab_number-requires
symtab_number-requires c =
    let long : c.len-count.result ≡ length c.in_ok-heads.heads.items = search rules in
    let some = c.in_ok-heads.ensures.some in
    omega (arith, long, some)

pub sections_of-sections-requires : goal.sections_of-sections-requires
sections_of-sections-requires c =
    subst (λ (x : Object). IsFitted (format_of c.args.class) x) (sym c.into_neutral.ensures) (subst (λ f. IsFitted f c.args.fitted) c.requires c.is_fitted.ensures)

pub returns-clause-made : goal.returns-clause-made
returns-clause-made c =
    let class = c.args.class in
    let m : Object = c.neutral-neutral.result.now in
    let same : m ≡ c.args.fitted = c.neutral-neutral.ensures in
    let raws = c.sections_of-sections.ensures ∙ ap (all_raws (word_of class)) (c.into_neutral.ensures ∙ sym same) in
    let heads = as_many_heads m c.in_ok-heads.heads.items c.in_ok-heads.ensures.heads in
    let long : c.len-count.result ≡ length c.in_ok-heads.heads.items = search rules in
    let long-3 : c.len.result ≡ length c.in_ok-heads.heads.items = search rules in
    let many : length (heads_of m) ≡ c.len-count.result = sym (long ∙ heads) in
    let index : 1 + c.len.result ≡ 1 + length (heads_of m) = ap (λ k. 1 + k) (long-3 ∙ heads) in
    let place : place_where is_head_table (laid_parts class m) ≡ c.index.result.now = sym (c.index.ensures ∙ ap (λ ps. get_or ps (1 + c.len.result) c.index.result.now) c.in_ok-layout.ensures.begins ∙ table_place class m (1 + c.len.result) c.index.result.now index) in
    let ehdr = c.file_header-ehdr.ensures m many place in
    rw (← same) (record {
      is = refl;
      ehdr = ehdr;
      heads = c.in_ok-heads.ensures.heads;
      shdrs = c.in_ok-shdrs.ensures;
      raws = raws;
      bodies = c.in_ok-bodies.ensures;
    })

pub returns-clause-laid : goal.returns-clause-laid
returns-clause-laid c =
    let same : c.neutral-neutral.result.now ≡ c.args.fitted = c.neutral-neutral.ensures in
    subst (λ (x : Object). AreLaid c.args.class x c.in_ok-layout.layout (parts_of x)) same c.in_ok-layout.ensures
