-- Field blocks that are decoded: RFC 9113 section 4.3.
use Rattle.std.specs.Prelude.{ℕ, ◌≡◌, true, false, List, [], ◌∷◌, ◌++◌, length, codes, refl, replicate, Some}
use Rattle.ext_msgs.specs.declared.lists.Field.{Field}
use Rattle.hpack_prim.specs.Integers.{groups_at, int_at}
use Rattle.hpack_core.specs.Static.{entry as field}
use Rattle.h2_frames.specs.declared.frame.Frame.TheVariants as frame
use Rattle.h2_model.specs.declared.answers.Event.TheVariants as event
use Rattle.h2_model.specs.History.{Open, called}
use Rattle.h2_model_examples.specs.Setting.{rules, reported, came, client, brings, client_code}

-- a block of :status 200
abbrev ok : List ℕ
ok = 136 ∷ []

-- a block of one field that no table has
abbrev block : List ℕ → List ℕ → List ℕ
block name value = 0 ∷ length name ∷ name ++ length value ∷ value

abbrev status : List ℕ → Field
status value = field (codes ":status") value

-- 1,561 fields of 42 bytes
list_too_long : client_code (frame.Headers 1 (replicate 1561 136) false true ∷ []) ≡ Some 11
unfolding groups_at int_at rules
list_too_long = refl

index_in_no_table : client_code (frame.Headers 1 (128 ∷ []) false true ∷ []) ≡ Some 9
unfolding groups_at int_at rules
index_in_no_table = refl

index_in_no_table_on_a_closed_stream : client_code
    (frame.Reset 1 8 ∷ frame.Headers 1 (128 ∷ []) false false ∷ frame.Continuation 1 [] true ∷ []) ≡ Some 9
unfolding groups_at int_at rules
index_in_no_table_on_a_closed_stream = refl

interim_block_comes_first : brings (frame.Headers 1 (block (codes ":status") (codes "103")) false true ∷ frame.Headers 1 ok false true ∷ [])
    ≡ event.Head 1 (status (codes "103") ∷ []) false ∷ event.Head 1 (status (codes "200") ∷ []) false ∷ []
unfolding groups_at int_at rules
interim_block_comes_first = refl

upper_case_name : brings (frame.Headers 1 (block (codes "X-a") []) false true ∷ []) ≡ event.Reset 1 1 ∷ []
unfolding groups_at int_at rules
upper_case_name = refl

pseudo_field_behind_another : brings (frame.Headers 1 (block (codes "x-a") [] ++ ok) false true ∷ []) ≡ event.Reset 1 1 ∷ []
unfolding groups_at int_at rules
pseudo_field_behind_another = refl

-- a block on a closed stream still changes the table: the later block names its entry
closed_stream_changes_the_table : reported (came
    (frame.Reset 1 8 ∷ frame.Headers 1 (64 ∷ 1 ∷ 97 ∷ 1 ∷ 98 ∷ []) false true ∷ frame.Headers 3 (190 ∷ []) true true ∷ [])
    (called Open client))
    ≡ event.Reset 1 8 ∷ event.Head 3 (field (codes "a") (codes "b") ∷ []) true ∷ []
unfolding groups_at int_at rules
closed_stream_changes_the_table = refl

-- a head of a response, by its bytes
abbrev response : List Field
response = record { name = codes ":status"; value = codes "200" } ∷ record { name = codes "content-type"; value = codes "application/grpc" } ∷ []

response_is_reported : brings (frame.Headers 1 (136 ∷ 95 ∷ 16 ∷ codes "application/grpc") false true ∷ []) ≡ event.Head 1 response false ∷ []
unfolding groups_at int_at rules
response_is_reported = refl
