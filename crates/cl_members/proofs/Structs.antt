-- The table of structs, as the list of their bindings.
use Rattle.std.proofs.Common.{◌≡◌, ℕ, List, [], ◌∷◌, ◌++◌, length, refl, sym, ap, ◌∙◌, Option, Some, None, option_map, slice_get, bytes_eq}
use Rattle.std.specs.Map.{update}
use Rattle.cl_tree.specs.Words.{Word}
use Rattle.cl_typing.specs.Scope.{Env, meaning, members_of, members_in}
use Rattle.cl_scope.specs.declared.latest.Latest.{Latest}
use Rattle.cl_members.specs.declared.tags.Tag.{Tag}
use Rattle.cl_scope.specs.Table.{place_in, place_at}
use Rattle.cl_members.specs.Tags.{tag_binding, tags_in, IsTagged}
use Rattle.cl_scope.proofs.Places.{env_push, env_length, found, not_there}

pub tags_push : (tags : List Tag) (t : Tag) → tags_in (tags ++ t ∷ []) ≡ tag_binding t ∷ tags_in tags
unfolding tags_in
tags_push tags t = env_push tag_binding tags t

pub tags_length : (tags : List Tag) → length (tags_in tags) ≡ length tags
unfolding tags_in
tags_length tags = env_length tag_binding tags

pub tagged_push : (tags all : List Tag) (t : Tag) (old new : Latest) → IsTagged tags old → all ≡ tags ++ t ∷ []
    → ((q : Word) → place_at new q ≡ update bytes_eq (place_at old) t.name.now (Some (length tags)) q)
    → IsTagged all new
unfolding place_in
tagged_push tags all t old new k e u = λ q. rw (e, u q, tags_push tags t, tags_length tags, k q) refl

pub tagged_none : (latest : Latest) → ((q : Word) → place_at latest q ≡ None) → IsTagged [] latest
unfolding tags_in place_in
tagged_none latest h = h

pub tags_none : tags_in [] ≡ []
unfolding tags_in
tags_none = refl

fields_case : (o : Option Tag)
    → members_in (option_map (λ (t : Tag). (tag_binding t).entry) o) ≡ option_map (λ (t : Tag). t.fields) o
fields_case None = refl
fields_case (Some t) = refl

pub struct_found : (tags : List Tag) (latest : Latest) (env : Env) (name : Word) (i : ℕ) (o : Option Tag)
    → IsTagged tags latest → tags_in tags ≡ env → place_at latest name ≡ Some i → o ≡ slice_get tags i
    → option_map (λ (t : Tag). t.fields) o ≡ members_of env name
unfolding members_of tags_in
struct_found tags latest env name i o k e h s =
    let n : place_in (tags_in tags) name ≡ Some i = sym (k name) ∙ h in
    sym (fields_case o) ∙ ap (λ (x : Option Tag). members_in (option_map (λ (t : Tag). (tag_binding t).entry) x)) s
    ∙ ap members_in (found tag_binding tags name i n ∙ ap (λ (x : Env). meaning x name) e)

pub struct_missing : (tags : List Tag) (latest : Latest) (env : Env) (name : Word) → IsTagged tags latest
    → tags_in tags ≡ env → place_at latest name ≡ None → None ≡ members_of env name
unfolding members_of
struct_missing tags latest env name k e h =
    let n : place_in env name ≡ None = ap (λ (x : Env). place_in x name) (sym e) ∙ sym (k name) ∙ h in
    ap members_in (sym (not_there env name n))

pub tags_bind : (tags all : List Tag) (t : Tag) (env : Env) → all ≡ tags ++ t ∷ [] → tags_in tags ≡ env
    → tags_in all ≡ tag_binding t ∷ env
tags_bind tags all t env e h = ap tags_in e ∙ tags_push tags t ∙ ap (λ (x : Env). tag_binding t ∷ x) h
