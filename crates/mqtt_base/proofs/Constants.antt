-- The numbers of the limits and of the reason codes, computed from what stands in code.
use Rattle.std.proofs.Common.{◌≡◌, ◌^◌, [], ◌∷◌, refl}
use Rattle.mqtt_base.specs.declared.limits.TheConstants.{ALIAS_LIMIT, CLIENT_LIMIT, CONNECT_TIME, LAST_NUMBER, LINE_LIMIT, LINES_UNASKED, OPEN_LIMIT, PACKET_LIMIT, PUMP_LIMIT, QUEUE_LIMIT, RETAINED_LIMIT, ROW_LIMIT, SESSION_LIMIT, SUBSCRIPTION_LIMIT, VARINT_LIMIT}
use Rattle.mqtt_base.specs.declared.reason.TheConstants.Reason as reasons
use Rattle.mqtt_base.specs.Codes as codes

-- the limits of this broker
queue : QUEUE_LIMIT ≡ 1000
queue = refl

subscriptions : SUBSCRIPTION_LIMIT ≡ 100
subscriptions = refl

retained : RETAINED_LIMIT ≡ 1000
retained = refl

sessions : SESSION_LIMIT ≡ 1000
sessions = refl

lines : LINE_LIMIT ≡ 1000
lines = refl

lines_unasked : LINES_UNASKED ≡ 64
lines_unasked = refl

open_identifiers : OPEN_LIMIT ≡ 20
open_identifiers = refl

aliases : ALIAS_LIMIT ≡ 10
aliases = refl

packet : PACKET_LIMIT ≡ 65536
packet = refl

row : ROW_LIMIT ≡ 200000
row = refl

client : CLIENT_LIMIT ≡ 64
client = refl

pump : PUMP_LIMIT ≡ 16
pump = refl

connect_time : CONNECT_TIME ≡ 10000
connect_time = refl

last_number : LAST_NUMBER ≡ 2 ^ 62
last_number = refl

varints : VARINT_LIMIT ≡ 2 ^ 28
varints = refl

-- a definition's reason code is the constant's of that name (2.4, Table 2-6)
success : codes.success ≡ reasons.SUCCESS.0
success = refl

normal_disconnection : codes.normal_disconnection ≡ reasons.NORMAL_DISCONNECTION.0
normal_disconnection = refl

granted_qos_0 : codes.granted_qos_0 ≡ reasons.GRANTED_QOS_0.0
granted_qos_0 = refl

granted_qos_1 : codes.granted_qos_1 ≡ reasons.GRANTED_QOS_1.0
granted_qos_1 = refl

granted_qos_2 : codes.granted_qos_2 ≡ reasons.GRANTED_QOS_2.0
granted_qos_2 = refl

disconnect_with_will_message : codes.disconnect_with_will_message ≡ reasons.DISCONNECT_WITH_WILL_MESSAGE.0
disconnect_with_will_message = refl

no_matching_subscribers : codes.no_matching_subscribers ≡ reasons.NO_MATCHING_SUBSCRIBERS.0
no_matching_subscribers = refl

no_subscription_existed : codes.no_subscription_existed ≡ reasons.NO_SUBSCRIPTION_EXISTED.0
no_subscription_existed = refl

continue_authentication : codes.continue_authentication ≡ reasons.CONTINUE_AUTHENTICATION.0
continue_authentication = refl

re_authenticate : codes.re_authenticate ≡ reasons.RE_AUTHENTICATE.0
re_authenticate = refl

unspecified_error : codes.unspecified_error ≡ reasons.UNSPECIFIED_ERROR.0
unspecified_error = refl

malformed_packet : codes.malformed_packet ≡ reasons.MALFORMED_PACKET.0
malformed_packet = refl

protocol_error : codes.protocol_error ≡ reasons.PROTOCOL_ERROR.0
protocol_error = refl

implementation_specific_error : codes.implementation_specific_error ≡ reasons.IMPLEMENTATION_SPECIFIC_ERROR.0
implementation_specific_error = refl

unsupported_protocol_version : codes.unsupported_protocol_version ≡ reasons.UNSUPPORTED_PROTOCOL_VERSION.0
unsupported_protocol_version = refl

client_identifier_not_valid : codes.client_identifier_not_valid ≡ reasons.CLIENT_IDENTIFIER_NOT_VALID.0
client_identifier_not_valid = refl

bad_user_name_or_password : codes.bad_user_name_or_password ≡ reasons.BAD_USER_NAME_OR_PASSWORD.0
bad_user_name_or_password = refl

not_authorized : codes.not_authorized ≡ reasons.NOT_AUTHORIZED.0
not_authorized = refl

server_unavailable : codes.server_unavailable ≡ reasons.SERVER_UNAVAILABLE.0
server_unavailable = refl

server_busy : codes.server_busy ≡ reasons.SERVER_BUSY.0
server_busy = refl

banned : codes.banned ≡ reasons.BANNED.0
banned = refl

server_shutting_down : codes.server_shutting_down ≡ reasons.SERVER_SHUTTING_DOWN.0
server_shutting_down = refl

bad_authentication_method : codes.bad_authentication_method ≡ reasons.BAD_AUTHENTICATION_METHOD.0
bad_authentication_method = refl

keep_alive_timeout : codes.keep_alive_timeout ≡ reasons.KEEP_ALIVE_TIMEOUT.0
keep_alive_timeout = refl

session_taken_over : codes.session_taken_over ≡ reasons.SESSION_TAKEN_OVER.0
session_taken_over = refl

topic_filter_invalid : codes.topic_filter_invalid ≡ reasons.TOPIC_FILTER_INVALID.0
topic_filter_invalid = refl

topic_name_invalid : codes.topic_name_invalid ≡ reasons.TOPIC_NAME_INVALID.0
topic_name_invalid = refl

identifier_in_use : codes.identifier_in_use ≡ reasons.PACKET_IDENTIFIER_IN_USE.0
identifier_in_use = refl

identifier_not_found : codes.identifier_not_found ≡ reasons.PACKET_IDENTIFIER_NOT_FOUND.0
identifier_not_found = refl

receive_maximum_exceeded : codes.receive_maximum_exceeded ≡ reasons.RECEIVE_MAXIMUM_EXCEEDED.0
receive_maximum_exceeded = refl

topic_alias_invalid : codes.topic_alias_invalid ≡ reasons.TOPIC_ALIAS_INVALID.0
topic_alias_invalid = refl

packet_too_large : codes.packet_too_large ≡ reasons.PACKET_TOO_LARGE.0
packet_too_large = refl

message_rate_too_high : codes.message_rate_too_high ≡ reasons.MESSAGE_RATE_TOO_HIGH.0
message_rate_too_high = refl

quota_exceeded : codes.quota_exceeded ≡ reasons.QUOTA_EXCEEDED.0
quota_exceeded = refl

administrative_action : codes.administrative_action ≡ reasons.ADMINISTRATIVE_ACTION.0
administrative_action = refl

payload_format_invalid : codes.payload_format_invalid ≡ reasons.PAYLOAD_FORMAT_INVALID.0
payload_format_invalid = refl

retain_not_supported : codes.retain_not_supported ≡ reasons.RETAIN_NOT_SUPPORTED.0
retain_not_supported = refl

qos_not_supported : codes.qos_not_supported ≡ reasons.QOS_NOT_SUPPORTED.0
qos_not_supported = refl

use_another_server : codes.use_another_server ≡ reasons.USE_ANOTHER_SERVER.0
use_another_server = refl

server_moved : codes.server_moved ≡ reasons.SERVER_MOVED.0
server_moved = refl

shared_subscriptions_not_supported : codes.shared_subscriptions_not_supported ≡ reasons.SHARED_SUBSCRIPTIONS_NOT_SUPPORTED.0
shared_subscriptions_not_supported = refl

connection_rate_exceeded : codes.connection_rate_exceeded ≡ reasons.CONNECTION_RATE_EXCEEDED.0
connection_rate_exceeded = refl

maximum_connect_time : codes.maximum_connect_time ≡ reasons.MAXIMUM_CONNECT_TIME.0
maximum_connect_time = refl

subscription_identifiers_not_supported : codes.subscription_identifiers_not_supported ≡ reasons.SUBSCRIPTION_IDENTIFIERS_NOT_SUPPORTED.0
subscription_identifiers_not_supported = refl

wildcard_subscriptions_not_supported : codes.wildcard_subscriptions_not_supported ≡ reasons.WILDCARD_SUBSCRIPTIONS_NOT_SUPPORTED.0
wildcard_subscriptions_not_supported = refl
