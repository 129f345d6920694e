-- The reason codes by their names (2.4, Table 2-6).
use Rattle.std.specs.Prelude.{ℕ, Bool, nat_lt}

-- a code below 0x80 tells success, any other a failure
abbrev pub is_success : ℕ → Bool
is_success code = nat_lt code 0x80

abbrev pub success : ℕ
success = 0x00

abbrev pub normal_disconnection : ℕ
normal_disconnection = 0x00

abbrev pub granted_qos_0 : ℕ
granted_qos_0 = 0x00

abbrev pub granted_qos_1 : ℕ
granted_qos_1 = 0x01

abbrev pub granted_qos_2 : ℕ
granted_qos_2 = 0x02

abbrev pub disconnect_with_will_message : ℕ
disconnect_with_will_message = 0x04

abbrev pub no_matching_subscribers : ℕ
no_matching_subscribers = 0x10

abbrev pub no_subscription_existed : ℕ
no_subscription_existed = 0x11

abbrev pub continue_authentication : ℕ
continue_authentication = 0x18

abbrev pub re_authenticate : ℕ
re_authenticate = 0x19

abbrev pub unspecified_error : ℕ
unspecified_error = 0x80

abbrev pub malformed_packet : ℕ
malformed_packet = 0x81

abbrev pub protocol_error : ℕ
protocol_error = 0x82

abbrev pub implementation_specific_error : ℕ
implementation_specific_error = 0x83

abbrev pub unsupported_protocol_version : ℕ
unsupported_protocol_version = 0x84

abbrev pub client_identifier_not_valid : ℕ
client_identifier_not_valid = 0x85

abbrev pub bad_user_name_or_password : ℕ
bad_user_name_or_password = 0x86

abbrev pub not_authorized : ℕ
not_authorized = 0x87

abbrev pub server_unavailable : ℕ
server_unavailable = 0x88

abbrev pub server_busy : ℕ
server_busy = 0x89

abbrev pub banned : ℕ
banned = 0x8a

abbrev pub server_shutting_down : ℕ
server_shutting_down = 0x8b

abbrev pub bad_authentication_method : ℕ
bad_authentication_method = 0x8c

abbrev pub keep_alive_timeout : ℕ
keep_alive_timeout = 0x8d

abbrev pub session_taken_over : ℕ
session_taken_over = 0x8e

abbrev pub topic_filter_invalid : ℕ
topic_filter_invalid = 0x8f

abbrev pub topic_name_invalid : ℕ
topic_name_invalid = 0x90

abbrev pub identifier_in_use : ℕ
identifier_in_use = 0x91

abbrev pub identifier_not_found : ℕ
identifier_not_found = 0x92

abbrev pub receive_maximum_exceeded : ℕ
receive_maximum_exceeded = 0x93

abbrev pub topic_alias_invalid : ℕ
topic_alias_invalid = 0x94

abbrev pub packet_too_large : ℕ
packet_too_large = 0x95

abbrev pub message_rate_too_high : ℕ
message_rate_too_high = 0x96

abbrev pub quota_exceeded : ℕ
quota_exceeded = 0x97

abbrev pub administrative_action : ℕ
administrative_action = 0x98

abbrev pub payload_format_invalid : ℕ
payload_format_invalid = 0x99

abbrev pub retain_not_supported : ℕ
retain_not_supported = 0x9a

abbrev pub qos_not_supported : ℕ
qos_not_supported = 0x9b

abbrev pub use_another_server : ℕ
use_another_server = 0x9c

abbrev pub server_moved : ℕ
server_moved = 0x9d

abbrev pub shared_subscriptions_not_supported : ℕ
shared_subscriptions_not_supported = 0x9e

abbrev pub connection_rate_exceeded : ℕ
connection_rate_exceeded = 0x9f

abbrev pub maximum_connect_time : ℕ
maximum_connect_time = 0xa0

abbrev pub subscription_identifiers_not_supported : ℕ
subscription_identifiers_not_supported = 0xa1

abbrev pub wildcard_subscriptions_not_supported : ℕ
wildcard_subscriptions_not_supported = 0xa2
